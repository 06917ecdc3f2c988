-- What it says of a node that its label places it in the tree, and what follows where labels place
-- all nodes.
use Rattle.std.proofs.Common.{◌≡◌, ◌∙◌, ℕ, ◌+◌, ◌==◌, Bool, true, ◌&&◌, ◌||◌, List, map, slice_get, Contains, Option, Some, None, is_some, refl, sym, ap, arith}
use Rattle.std.specs.Option.{option_and_then, option_map, option_map_or}
use Rattle.std.proofs.lemmas.Bool.{and_from, and_parts, eq-eqb, eqb-true}
use Rattle.std.proofs.lemmas.Option.{slice_get-map}
use Rattle.pls_configuration.specs.declared.row.Port.{Port}
use Rattle.pls_configuration.specs.declared.row.NodeRow.{NodeRow}
use Rattle.pls_configuration.specs.Configuration.{IsNetwork}
use Rattle.pls_configuration.specs.Walk.{IsConnected}
use Rattle.pls_graph.proofs.Finds.{item_at}
use Rattle.pls_graph.proofs.Members.{Contains-from_place}
use Rattle.pls_scheme.specs.Reading.{ReadPort, port_where, read_where, target}
use Rattle.pls_facts.specs.Pointer.{Falls, pointed_port}
use Rattle.pls_facts.specs.SpanningTree.{IsTree}
use Rattle.pls_facts.proofs.Agreed.{agree_everywhere}
use Rattle.pls_facts.proofs.Pointed.{IsPointer, IsPointer-pointed_node, id_of_row, pointed_port_of}
use Rattle.pls_facts.proofs.Trees.{IsTree-falling}
use Rattle.pls_pointer.specs.laws.PointingLaws.{points_or}
use Rattle.pls_levels.specs.declared.label.LevelLabel.{LevelLabel}
use Rattle.pls_levels.specs.Rules.{follows_target, is_placed_in_tree, is_root_of_tree}
use Rattle.pls_levels.specs.laws.InTree.{pointed_is}

-- it says its identity; without pointer it says that it is the root, at depth 0; else that it is
-- one deeper than the node that it points at, which is its parent
pub record IsPlaced {S : Type 0} (say : ℕ → LevelLabel S) (row : NodeRow) : Type 0 where
  pub own : (say row.id).own ≡ row.id
  pub top : row.state.up ≡ None → ((say row.id).depth ≡ 0) × ((say row.id).root ≡ row.id)
      × ((say row.id).parent ≡ (say row.id).own)
  pub below : (port : Port) → pointed_port row ≡ Some port
      → ((say row.id).depth ≡ (say port.nbr).depth + 1)
      × ((say row.id).parent ≡ (say port.nbr).own)

module _ {S : Type 0} (say : ℕ → LevelLabel S) (row : NodeRow) where
  abbrev mine : LevelLabel S
  mine = say row.id

  -- what is read at the port that the node points at
  target_is : target (read_where say row) ≡ option_map (port_where say) (pointed_port row)
  target_is = by row.state.up
    where
      by : (up : Option ℕ) → option_and_then (slice_get (map (port_where say) row.ports)) up
          ≡ option_map (port_where say) (option_and_then (slice_get row.ports) up)
      by None = refl
      by (Some number) = slice_get-map (port_where say) row.ports number

  -- what is asked of the port that it points at holds there
  pub asked_of_target : (test : ReadPort (LevelLabel S) → Bool)
      → option_map_or test (target (read_where say row)) true ≡ true → (port : Port)
      → pointed_port row ≡ Some port → test (port_where say port) ≡ true
  asked_of_target test holds port pointed =
      sym (ap (λ (read : Option (ReadPort (LevelLabel S))). option_map_or test read true)
      (target_is ∙ ap (option_map (port_where say)) pointed)) ∙ holds

  -- and the other way round
  pub of_target : (test : ReadPort (LevelLabel S) → Bool)
      → ((port : Port) → pointed_port row ≡ Some port → test (port_where say port) ≡ true)
      → option_map_or test (target (read_where say row)) true ≡ true
  of_target test each =
      ap (λ (read : Option (ReadPort (LevelLabel S))). option_map_or test read true) target_is
      ∙ by (pointed_port row) refl
    where
      by : (pointed : Option Port) → pointed_port row ≡ pointed
          → option_map_or test (option_map (port_where say) pointed) true ≡ true
      by None is = refl
      by (Some port) is = each port is

  -- where the node has no pointer, what else is asked of it holds
  pub without_pointer : (test : Bool) → (is_some row.state.up || test) ≡ true
      → row.state.up ≡ None → test ≡ true
  without_pointer test holds none = rw none at holds

  -- the test says so
  pub placed_by_test : is_placed_in_tree (read_where say row) ≡ true → IsPlaced say row
  placed_by_test holds = record {
    own = eqb-true mine.own row.id names.0;
    top = λ none.
        let root = and_parts (mine.depth == 0) (mine.root == row.id && mine.parent == mine.own)
        (without_pointer (is_root_of_tree (read_where say row)) stands.0 none) in
        let named = and_parts (mine.root == row.id) (mine.parent == mine.own) root.1 in (
          eqb-true mine.depth 0 root.0,
          eqb-true mine.root row.id named.0,
          eqb-true mine.parent mine.own named.1,
        );
    below = λ port pointed.
        let follows = and_parts (mine.depth == (say port.nbr).depth + 1)
        (mine.parent == (say port.nbr).own) (asked_of_target
        (λ (port : ReadPort (LevelLabel S)). mine.depth == port.label.depth + 1
        && mine.parent == port.label.own) stands.1 port pointed) in (
          eqb-true mine.depth ((say port.nbr).depth + 1) follows.0,
          eqb-true mine.parent (say port.nbr).own follows.1,
        );
  }
    where
      names : (mine.own == row.id ≡ true)
          × (((is_some row.state.up || is_root_of_tree (read_where say row))
          && follows_target (read_where say row)) ≡ true)
      names = and_parts (mine.own == row.id)
          ((is_some row.state.up || is_root_of_tree (read_where say row))
          && follows_target (read_where say row)) holds

      stands : ((is_some row.state.up || is_root_of_tree (read_where say row)) ≡ true)
          × (follows_target (read_where say row) ≡ true)
      stands = and_parts (is_some row.state.up || is_root_of_tree (read_where say row))
          (follows_target (read_where say row)) names.1

  -- what it says passes the test
  pub test_of_placed : IsPlaced say row → is_placed_in_tree (read_where say row) ≡ true
  test_of_placed placed =
      and_from (mine.own == row.id) ((is_some row.state.up || is_root_of_tree (read_where say row))
      && follows_target (read_where say row)) (eq-eqb mine.own row.id placed.own)
      (and_from (is_some row.state.up || is_root_of_tree (read_where say row))
      (follows_target (read_where say row))
      (points_or row (is_root_of_tree (read_where say row)) is_root) follows)
    where
      follows : follows_target (read_where say row) ≡ true
      follows = of_target (λ (port : ReadPort (LevelLabel S)). mine.depth == port.label.depth + 1
          && mine.parent == port.label.own)
          (λ port pointed. let is = placed.below port pointed in
          and_from (mine.depth == (say port.nbr).depth + 1) (mine.parent == (say port.nbr).own)
          (eq-eqb mine.depth ((say port.nbr).depth + 1) is.0)
          (eq-eqb mine.parent (say port.nbr).own is.1))

      is_root : row.state.up ≡ None → is_root_of_tree (read_where say row) ≡ true
      is_root none = let is = placed.top none in
          and_from (mine.depth == 0) (mine.root == row.id && mine.parent == mine.own)
          (eq-eqb mine.depth 0 is.0)
          (and_from (mine.root == row.id) (mine.parent == mine.own) (eq-eqb mine.root row.id is.1)
          (eq-eqb mine.parent mine.own is.2))

module _ {S : Type 0} (rows : List NodeRow) (net : IsNetwork rows) (say : ℕ → LevelLabel S)
    (placed : (row : NodeRow) → Contains rows row → IsPlaced say row) where
  abbrev own : ℕ → ℕ
  own id = (say id).own

  abbrev parent : ℕ → ℕ
  parent id = (say id).parent

  -- a node has the name that its label has for it, and its parent is the node that it points at
  pub named : (row : NodeRow) → Contains rows row → own row.id ≡ row.id
  named row in' = (placed row in').own

  pub follows : (row : NodeRow) (port : Port) → Contains rows row → pointed_port row ≡ Some port
      → parent row.id ≡ own port.nbr
  follows row port in' pointed = ((placed row in').below port pointed).1

  pub parent_of_root : (row : NodeRow) → Contains rows row → pointed_port row ≡ None
      → parent row.id ≡ row.id
  parent_of_root row in' none = by row.state.up refl
    where
      by : (up : Option ℕ) → row.state.up ≡ up → parent row.id ≡ row.id
      by None e = ((placed row in').top e).2 ∙ named row in'
      by (Some up) e =
          let to = pointed_port_of rows net row in' up e in
          let pointed : pointed_port row ≡ Some to.0 =
          ap (option_and_then (slice_get row.ports)) e ∙ to.1 in
          let no : None ≡ Some to.0 = sym none ∙ pointed in
          absurd (cc)

  depths_fall : Falls rows (λ id. (say id).depth)
  depths_fall u v points =
      let step : IsPointer rows u v = IsPointer-pointed_node rows net u v points in
      let row_in : Contains rows step.row = Contains-from_place rows step.place step.row step.at in
      let below = ((placed step.row row_in).below step.port (pointed_is rows u v step)).0 in
      let here = ap (λ (id : ℕ). (say id).depth) step.owner in
      let there = ap (λ (id : ℕ). (say id).depth) step.named in
      omega (arith, below, here, there)

  -- where neighbours name one root too, the pointers make a tree
  pub tree_of_placed : IsConnected rows → ((row : NodeRow) (port : Port)
      → Contains rows row → Contains row.ports port
      → (say port.nbr).root ≡ (say row.id).root) → IsTree rows
  tree_of_placed connected alike =
      let (first, at) : (row : NodeRow) × (slice_get rows 0 ≡ Some row) =
      item_at rows 0 net.limits.some in
      let first_in : Contains rows first = Contains-from_place rows 0 first at in
      IsTree-falling rows net (λ id. (say id).depth) depths_fall (say first.id).root
      (λ row in' none. sym ((placed row in').top none).1
      ∙ agree_everywhere rows (λ id. (say id).root) connected alike row.id first.id
      (id_of_row rows row in') (id_of_row rows first first_in))
