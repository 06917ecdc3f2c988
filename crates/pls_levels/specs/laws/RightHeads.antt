-- Where the pointers make a tree: what is right in front of the levels places all nodes, is one,
-- and is small.
use Rattle.std.proofs.Common.{◌≡◌, ◌∙◌, ℕ, ◌≤◌, List, Contains, Option, Some, None, option_and_then, option_map, refl, sym, ap, subst, arith, slice_get}
use Rattle.pls_configuration.specs.declared.row.Port.{Port}
use Rattle.pls_configuration.specs.declared.row.NodeRow.{NodeRow}
use Rattle.pls_configuration.specs.Configuration.{IsNetwork}
use Rattle.pls_graph.specs.Size.{size_of}
use Rattle.pls_facts.specs.Pointer.{Falls, IsChainOf, pointed_port}
use Rattle.pls_facts.specs.SpanningTree.{IsTree}
use Rattle.pls_facts.proofs.Bounded.{IsChainOf-short}
use Rattle.pls_facts.proofs.ChainDepths.{chain_of_root, chains_fall}
use Rattle.pls_facts.proofs.Chains.{IsChainOf-one}
use Rattle.pls_facts.proofs.Neighbours.{id_within, neighbour_row}
use Rattle.pls_facts.proofs.Pointed.{pointed_node-row}
use Rattle.pls_facts.proofs.Roots.{a_root}
use Rattle.pls_levels.specs.declared.label.LevelLabel.{LevelLabel}
use Rattle.pls_levels.specs.Making.{IsRightHead}
use Rattle.pls_levels.specs.laws.InTree.{pointed_has}
use Rattle.pls_levels.specs.laws.Placed.{IsPlaced}

-- the node without pointer
abbrev pub root_of : (rows : List NodeRow) → IsTree rows
    → (row : NodeRow) × Contains rows row × (row.state.up ≡ None)
root_of rows is_tree = a_root rows is_tree.one_root

module _ {S : Type 0} (rows : List NodeRow) (net : IsNetwork rows) (is_tree : IsTree rows)
    (row : NodeRow) (in' : Contains rows row) (label : LevelLabel S)
    (right : IsRightHead rows row label) where
  -- the root is the node without pointer, and the depth is the length of the chain to it
  pub at_root : (label.root ≡ (root_of rows is_tree).0.id)
      × IsChainOf rows row.id (root_of rows is_tree).0.id label.depth
  at_root = let root = root_of rows is_tree in right.root root.0 root.1 root.2

  -- one label is right that has these levels
  pub one_label : (other : LevelLabel S) → IsRightHead rows row other
      → label.levels ≡ other.levels → label ≡ other
  one_label other also levels =
      same_label (right.own ∙ sym also.own) (at_root.0 ∙ sym there.0)
      (parents (pointed_port row) refl)
      (IsChainOf-one rows row.id (root_of rows is_tree).0.id (root_of rows is_tree).0.id label.depth
      other.depth at_root.1 there.1).1 levels
    where
      there : (other.root ≡ (root_of rows is_tree).0.id)
          × IsChainOf rows row.id (root_of rows is_tree).0.id other.depth
      there = let root = root_of rows is_tree in also.root root.0 root.1 root.2

      parents : (pointed : Option Port) → pointed_port row ≡ pointed
          → label.parent ≡ other.parent
      parents None is = right.own_parent is ∙ sym (also.own_parent is)
      parents (Some port) is = right.parent port is ∙ sym (also.parent port is)

      same_label : label.own ≡ other.own → label.root ≡ other.root
          → label.parent ≡ other.parent → label.depth ≡ other.depth
          → label.levels ≡ other.levels → label ≡ other
      same_label own root parent depth levels =
          ap (λ (own : ℕ). made label.root own label.parent label.depth label.levels) own
          ∙ ap (λ (root : ℕ). made root other.own label.parent label.depth label.levels) root
          ∙ ap (λ (parent : ℕ). made other.root other.own parent label.depth label.levels) parent
          ∙ ap (λ (depth : ℕ). made other.root other.own other.parent depth label.levels) depth
          ∙ ap (made other.root other.own other.parent other.depth) levels
        where
          made : ℕ → ℕ → ℕ → ℕ → S → LevelLabel S
          made root own parent depth levels = record {
            root = root;
            own = own;
            parent = parent;
            depth = depth;
            levels = levels;
          }

  -- no number in front of the levels is greater than the greatest identity, or the number of nodes
  pub head_within : (label.root ≤ (size_of rows).max_id) × (label.own ≤ (size_of rows).max_id)
      × (label.parent ≤ (size_of rows).max_id) × (label.depth ≤ (size_of rows).nodes)
  head_within = (
    omega (arith, at_root.0, id_within rows (root_of rows is_tree).0 (root_of rows is_tree).1),
    omega (arith, right.own, id_within rows row in'),
    parent_within (pointed_port row) refl,
    omega (
      arith,
      IsChainOf-short rows net row.id (root_of rows is_tree).0.id label.depth at_root.1,
    ),
  )
    where
      parent_within : (pointed : Option Port) → pointed_port row ≡ pointed
          → label.parent ≤ (size_of rows).max_id
      parent_within None none = omega (arith, right.own_parent none, id_within rows row in')
      parent_within (Some port) pointed =
          let (other, other_in, named) : (other : NodeRow) × Contains rows other
          × (other.id ≡ port.nbr) =
          neighbour_row rows net row in' port (pointed_has row port pointed) in
          omega (arith, right.parent port pointed, named, id_within rows other other_in)

module _ {S : Type 0} (rows : List NodeRow) (net : IsNetwork rows) (is_tree : IsTree rows)
    (say : ℕ → LevelLabel S)
    (right : (row : NodeRow) → Contains rows row → IsRightHead rows row (say row.id)) where
  rooted : (row : NodeRow) → Contains rows row
      → ((say row.id).root ≡ (root_of rows is_tree).0.id)
      × IsChainOf rows row.id (root_of rows is_tree).0.id (say row.id).depth
  rooted row in' = at_root rows net is_tree row in' (say row.id) (right row in')

  falls : Falls rows (λ id. (say id).depth)
  falls = chains_fall rows net (λ id. (say id).depth)
      (λ row in'. ((root_of rows is_tree).0.id, (rooted row in').1))

  own_there : (row : NodeRow) (port : Port) → Contains rows row → Contains row.ports port
      → (say port.nbr).own ≡ port.nbr
  own_there row port in' has =
      let (other, other_in, is) : (other : NodeRow) × Contains rows other
      × (other.id ≡ port.nbr) = neighbour_row rows net row in' port has in
      subst (λ (id : ℕ). (say id).own ≡ id) is (right other other_in).own

  -- neighbours name one root
  pub one_root : (row : NodeRow) (port : Port) → Contains rows row → Contains row.ports port
      → (say port.nbr).root ≡ (say row.id).root
  one_root row port in' has =
      let (other, other_in, is) : (other : NodeRow) × Contains rows other
      × (other.id ≡ port.nbr) = neighbour_row rows net row in' port has in
      ap (λ (id : ℕ). (say id).root) (sym is) ∙ (rooted other other_in).0
      ∙ sym (rooted row in').0

  -- each label places its node in the tree
  pub placed_right : (row : NodeRow) → Contains rows row → IsPlaced say row
  placed_right row in' = record {
    own = (right row in').own;
    top = λ none. (
      chain_of_root rows net row in' none (root_of rows is_tree).0.id (say row.id).depth
          (rooted row in').1,
      ((right row in').root row in' none).0,
      (right row in').own_parent (ap (option_and_then (slice_get row.ports)) none)
          ∙ sym (right row in').own,
    );
    below = λ port pointed. (
      falls row.id port.nbr (pointed_node-row rows net row in'
          ∙ ap (option_map (λ (port : Port). port.nbr)) pointed),
      (right row in').parent port pointed
          ∙ sym (own_there row port in' (pointed_has row port pointed)),
    );
  }
