-- Why accepted labels show a spanning tree of least weight, in five steps: the pointers make a
-- tree; all nodes of a fragment say that it chose one edge; each tree edge is the choice of a
-- fragment that it leaves; such a choice comes before all other edges that leave the fragment; so,
-- by the cut rule, no spanning tree is lighter.
use Rattle.std.proofs.Common.{◌≡◌, ◌≢◌, ◌∙◌, ℕ, zero, suc, ◌+◌, ◌<◌, ◌==◌, ◌⊎◌, inl, inr, Bool, true, false, List, length, Some, refl, sym, ap, subst, arith, Contains}
use Rattle.std.proofs.lemmas.Bool.{eq-eqb, eqb-true, eqb-false, ne_eqb, true≢false}
use Rattle.pls_configuration.specs.declared.row.Port.{Port}
use Rattle.pls_configuration.specs.declared.row.NodeRow.{NodeRow}
use Rattle.pls_configuration.specs.Configuration.{IsNetwork, ids_of}
use Rattle.pls_configuration.specs.Walk.{Edge, IsConnected, Joins, edges_of}
use Rattle.pls_graph.proofs.Finds.{from_option_map}
use Rattle.pls_graph.proofs.Members.{Contains-from_place}
use Rattle.pls_facts.specs.Pointer.{pointed_port}
use Rattle.pls_facts.specs.SpanningTree.{IsTree, edge_at, pointed_edge, pointed_edges}
use Rattle.pls_facts.specs.Lightest.{AreFirstLeaving, IsFirstLeaving, IsLightest, Leaves}
use Rattle.pls_facts.specs.Precedes.{IsAtMost}
use Rattle.pls_facts.specs.EdgeOrder.{ComesBefore, edge_key}
use Rattle.pls_facts.proofs.Agreed.{agree_everywhere}
use Rattle.pls_facts.proofs.CutRule.{IsLightest-first}
use Rattle.pls_facts.proofs.EdgeKeys.{ComesBefore-order, before_by_key}
use Rattle.pls_facts.proofs.Filtered.{Contains-from_filter_map}
use Rattle.pls_facts.proofs.Neighbours.{neighbour_row}
use Rattle.pls_facts.proofs.Pointed.{id_of_row, row_from_id}
use Rattle.pls_facts.proofs.PointedEdges.{Joins-edge_at}
use Rattle.pls_facts.proofs.PortEdges.{IsAtPort, IsGraph-network, ports_of_edge}
use Rattle.pls_levels.specs.laws.InTree.{pointed_has}
use Rattle.pls_levels.specs.laws.Placed.{IsPlaced, tree_of_placed}
use Rattle.pls_mst.specs.Labels.{MstLabel}
use Rattle.pls_mst.specs.laws.Fragments.{KeepsRules, chosen_at, fragment_at, told_edge, told_outside}
use Rattle.pls_mst.specs.laws.TreeEdges.{tells_in}

-- an edge between two sides of a set leaves it
pub Leaves-joins : (inside : ℕ → Bool) (edge : Edge) (u v : ℕ) → Joins edge u v
    → inside u ≢ inside v → Leaves edge inside
Leaves-joins inside edge u v (inl ends) apart same =
    apart (ap inside (sym ends.0) ∙ same ∙ ap inside ends.1)
Leaves-joins inside edge u v (inr ends) apart same =
    apart (ap inside (sym ends.1) ∙ sym same ∙ ap inside ends.0)

module _ (rows : List NodeRow) (net : IsNetwork rows) (connected : IsConnected rows)
    (say : ℕ → MstLabel)
    (keeps : (row : NodeRow) → Contains rows row → KeepsRules say row) where
  abbrev tree : List Edge
  tree = pointed_edges rows

  abbrev IsNode : ℕ → Type 0
  IsNode id = Contains (ids_of rows) id

  -- ---- what labels say of the nodes and edges

  -- a node has the name that its label has for it
  own_is : (id : ℕ) → IsNode id → (say id).own ≡ id
  own_is id in' =
      let (row, row_in, named) : (row : NodeRow) × Contains rows row × (row.id ≡ id) =
      row_from_id rows id in' in
      subst (λ (id : ℕ). (say id).own ≡ id) named (keeps row row_in).placed.own

  -- a port names a node
  is_neighbour : (row : NodeRow) (port : Port) → Contains rows row → Contains row.ports port
      → IsNode port.nbr
  is_neighbour row port in' has =
      let (other, other_in, named) : (other : NodeRow) × Contains rows other
      × (other.id ≡ port.nbr) = neighbour_row rows net row in' port has in
      subst IsNode named (id_of_row rows other other_in)

  -- so the labels of its two ends tell the edge at a port as it is
  told_is : (row : NodeRow) (port : Port) → Contains rows row → Contains row.ports port
      → told_edge say row port ≡ edge_at row port
  told_is row port in' has =
      rw ((keeps row in').placed.own, own_is port.nbr (is_neighbour row port in' has)) refl

  -- a node's label places it in the tree
  placed : (row : NodeRow) → Contains rows row → IsPlaced say row
  placed row in' = (keeps row in').placed

  -- a number that neighbours have in common all nodes have
  all_alike : (told : MstLabel → ℕ)
      → ((row : NodeRow) (port : Port) → Contains rows row → Contains row.ports port
      → told (say port.nbr) ≡ told (say row.id)) → (u v : ℕ) → IsNode u → IsNode v
      → told (say u) ≡ told (say v)
  all_alike told alike = agree_everywhere rows (λ id. told (say id)) connected alike

  -- there are as many levels at each node
  levels_alike : (u v : ℕ) → IsNode u → IsNode v
      → length (say u).levels ≡ length (say v).levels
  levels_alike = all_alike (λ label. length label.levels)
      (λ row port in' has. ((keeps row in').alike port has).1)

  -- ---- first: the pointers make a tree

  pub pointers_make_a_tree : IsTree rows
  pointers_make_a_tree = tree_of_placed rows net say placed connected
      (λ row port in' has. ((keeps row in').alike port has).0)

  -- ---- second: all nodes of a fragment say that it chose one edge

  module _ (level : ℕ) where
    -- the node says what the node says that the fragment is named after
    abbrev SaysAsNamed : ℕ → Type 0
    SaysAsNamed id = chosen_at say level id ≡ chosen_at say level (fragment_at say level id)

    -- so it does where the node that it points at does
    said_above : (row : NodeRow) → Contains rows row → level < length (say row.id).levels
        → ((other : NodeRow) → Contains rows other → (say row.id).depth ≡ (say other.id).depth + 1
        → level < length (say other.id).levels → SaysAsNamed other.id) → SaysAsNamed row.id
    said_above row in' within above = elim ((keeps row in').named level within) [
      | inl own ↦ ap (chosen_at say level) (sym (keeps row in').placed.own ∙ sym own)
      | inr onward ↦
          let port : Port = onward.0 in
          let has : Contains row.ports port = pointed_has row port onward.1 in
          let rules : KeepsRules say row = keeps row in' in
          let (other, other_in, named) : (other : NodeRow) × Contains rows other
          × (other.id ≡ port.nbr) = neighbour_row rows net row in' port has in
          let below = (rules.placed.below port onward.1).0 in
          let many = (rules.alike port has).1 in
          let same = ap (λ (id : ℕ). length (say id).levels) named in
          let rest : SaysAsNamed port.nbr = subst SaysAsNamed named (above other other_in
          (below ∙ ap (λ (id : ℕ). (say id).depth + 1) (sym named))
          (omega (arith, same, many, within))) in
          rules.agrees level port within has onward.2 ∙ rest
          ∙ ap (chosen_at say level) (sym onward.2)
    ]

    -- along its chain of pointers, as long as that stays in the fragment
    said_from : (depth : ℕ) (row : NodeRow) → Contains rows row → (say row.id).depth ≡ depth
        → level < length (say row.id).levels → SaysAsNamed row.id
    said_from zero row in' is within = said_above row in' within
        (λ other other_in below _. absurd (omega (arith, is, below)))
    said_from (suc depth) row in' is within = said_above row in' within
        (λ other other_in below inside. said_from depth other other_in (omega (arith, is, below))
        inside)

    fragment_chose_one : (u v : ℕ) → IsNode u → IsNode v → level < length (say u).levels
        → fragment_at say level u ≡ fragment_at say level v
        → chosen_at say level u ≡ chosen_at say level v
    fragment_chose_one u v u_in v_in within same =
        said u u_in within ∙ ap (chosen_at say level) same
        ∙ sym (said v v_in (omega (arith, levels_alike u v u_in v_in, within)))
      where
        said : (u : ℕ) → IsNode u → level < length (say u).levels → SaysAsNamed u
        said u u_in within =
            let (row, row_in, named) : (row : NodeRow) × Contains rows row × (row.id ≡ u) =
            row_from_id rows u u_in in
            subst SaysAsNamed named (said_from (say row.id).depth row row_in refl
            (subst (λ (u : ℕ). level < length (say u).levels) (sym named) within))

  -- ---- third: each tree edge is the choice of a fragment that it leaves

  -- on a level the fragment of its one end, which the other is not in, chose the edge
  record IsChoice (edge : Edge) : Type 0 where
    level : ℕ
    inner : ℕ
    outer : ℕ
    known : IsNode inner
    within : level < length (say inner).levels
    joins : Joins edge inner outer
    apart : fragment_at say level inner ≢ fragment_at say level outer
    chose : chosen_at say level inner ≡ edge

  tree_edge_is_chosen : (edge : Edge) → Contains tree edge → IsChoice edge
  tree_edge_is_chosen edge in' =
      let (row, row_in, gives) : (row : NodeRow) × Contains rows row
      × (pointed_edge row ≡ Some edge) =
      Contains-from_filter_map pointed_edge rows edge in' in
      let (port, pointed, is) : (port : Port) × (pointed_port row ≡ Some port)
      × (edge_at row port ≡ edge) =
      from_option_map (edge_at row) (pointed_port row) edge gives in
      by row row_in port pointed is ((keeps row row_in).chosen port pointed)
    where
      by : (row : NodeRow) → Contains rows row → (port : Port) → pointed_port row ≡ Some port
          → edge_at row port ≡ edge
          → (level : ℕ) × (level < length (say row.id).levels)
          × (fragment_at say level row.id ≢ fragment_at say level port.nbr)
          × ((chosen_at say level row.id ≡ told_edge say row port)
          ⊎ (chosen_at say level port.nbr ≡ told_edge say row port)) → IsChoice edge
      by row row_in port pointed is (level, within, apart, which) =
          let has : Contains row.ports port = pointed_has row port pointed in
          let here : IsNode row.id = id_of_row rows row row_in in
          let there : IsNode port.nbr = is_neighbour row port row_in has in
          let joins : Joins edge row.id port.nbr =
          subst (λ (edge : Edge). Joins edge row.id port.nbr) is (Joins-edge_at row port) in
          let told : told_edge say row port ≡ edge = told_is row port row_in has ∙ is in
          elim which [
            | inl own ↦ record {
              level = level;
              inner = row.id;
              outer = port.nbr;
              known = here;
              within = within;
              joins = joins;
              apart = apart;
              chose = own ∙ told;
            }
            | inr theirs ↦ record {
              level = level;
              inner = port.nbr;
              outer = row.id;
              known = there;
              within = omega (arith, levels_alike row.id port.nbr here there, within);
              joins = elim joins [ inl ends ↦ inr ends | inr ends ↦ inl ends ];
              apart = λ same. apart (sym same);
              chose = theirs ∙ told;
            }
          ]

  -- ---- fourth: a choice comes before all other edges that leave its fragment

  module _ (edge : Edge) (in' : Contains tree edge) (is : IsChoice edge) where
    abbrev inside : ℕ → Bool
    inside id = fragment_at say is.level id == fragment_at say is.level is.inner

    -- an edge is no better, by the port of its end inside
    later_at : (other : Edge) (u v : ℕ) → IsAtPort rows other u v → inside u ≡ true
        → inside v ≡ false → other ≢ edge → ComesBefore tree edge other
    later_at other u v way u_in v_out apart =
        let row_in : Contains rows way.row =
        Contains-from_place rows way.place way.row way.at in
        let known : IsNode way.row.id = id_of_row rows way.row row_in in
        let has : Contains way.row.ports way.port =
        Contains-from_place way.row.ports way.number way.port way.has in
        let same : fragment_at say is.level way.row.id ≡ fragment_at say is.level is.inner =
        ap (fragment_at say is.level) way.owner
        ∙ eqb-true (fragment_at say is.level u) (fragment_at say is.level is.inner) u_in in
        let many : is.level < length (say way.row.id).levels =
        omega (arith, levels_alike way.row.id is.inner known is.known, is.within) in
        let chosen : chosen_at say is.level way.row.id ≡ edge =
        fragment_chose_one is.level way.row.id is.inner known is.known many same ∙ is.chose in
        let outside : ℕ = told_outside say way.row way.number way.port in
        let told : Edge = told_edge say way.row way.port in
        let least : IsAtMost (edge_key (chosen_at say is.level way.row.id) 0)
        (edge_key told outside) =
        (keeps way.row row_in).least is.level way.number way.port many way.has
        (λ e. eqb-false (fragment_at say is.level v) (fragment_at say is.level is.inner) v_out
        (ap (fragment_at say is.level) (sym way.names) ∙ sym e ∙ same)) in
        before_by_key tree edge other outside in' apart
        (tells_in rows net say placed other u v way)
        (subst (λ (told : Edge). IsAtMost (edge_key edge 0) (edge_key told outside))
        (told_is way.row way.port row_in has ∙ way.is)
        (subst (λ (chosen : Edge). IsAtMost (edge_key chosen 0) (edge_key told outside)) chosen
        least))

    choice_is_first : IsFirstLeaving (edges_of rows) (ComesBefore tree) inside edge
    choice_is_first = record {
      leaves = Leaves-joins inside edge is.inner is.outer is.joins (λ same. true≢false
          (sym (eq-eqb (fragment_at say is.level is.inner) (fragment_at say is.level is.inner) refl)
          ∙ same ∙ ne_eqb (fragment_at say is.level is.outer) (fragment_at say is.level is.inner)
          (λ e. is.apart (sym e))));
      first = λ other other_in leaves apart. by other apart leaves
          (ports_of_edge rows net other other_in) (inside other.a) (inside other.b) refl refl;
    }
      where
        by : (other : Edge) → other ≢ edge → inside other.a ≢ inside other.b
            → IsAtPort rows other other.a other.b × IsAtPort rows other other.b other.a
            → (first second : Bool) → inside other.a ≡ first → inside other.b ≡ second
            → ComesBefore tree edge other
        by other apart leaves ports true true a_in b_in = absurd (leaves (a_in ∙ sym b_in))
        by other apart leaves ports false false a_in b_in = absurd (leaves (a_in ∙ sym b_in))
        by other apart leaves ports true false a_in b_out =
            later_at other other.a other.b ports.0 a_in b_out apart
        by other apart leaves ports false true a_out b_in =
            later_at other other.b other.a ports.1 b_in a_out apart

  -- ---- fifth: no spanning tree is lighter

  tree_edges_are_first : AreFirstLeaving (edges_of rows) (ComesBefore tree) tree
  tree_edges_are_first edge in' = let is : IsChoice edge = tree_edge_is_chosen edge in' in
      (inside edge in' is, choice_is_first edge in' is)

  pub no_tree_is_lighter : IsLightest (edges_of rows) tree (ids_of rows)
  no_tree_is_lighter =
      IsLightest-first (ComesBefore tree) (edges_of rows) (ComesBefore-order tree (edges_of rows)) tree
      (ids_of rows) (IsGraph-network rows net) pointers_make_a_tree.spanning tree_edges_are_first
