-- The theorem of the scheme of trees.
use Rattle.std.proofs.Common.{◌≡◌, ◌≤◌, ◌<◌, ◌∙◌, ◌||◌, ◌==◌, ◌&&◌, ℕ, Bool, true, List, length, Contains, None, refl, sym, ap, arith, is_some}
use Rattle.std.proofs.lemmas.Bool.{and_from, and_parts, eq-eqb, eqb-true}
use Rattle.pls_bits.specs.NumberCode.{Grows, IsShort}
use Rattle.pls_configuration.specs.declared.row.Port.{Port}
use Rattle.pls_configuration.specs.declared.row.NodeRow.{NodeRow}
use Rattle.pls_configuration.specs.Configuration.{ids_of}
use Rattle.pls_graph.specs.Size.{greatest, size_of}
use Rattle.pls_scheme.specs.Basic.{longest_by}
use Rattle.pls_scheme.specs.Reading.{has_number, port_where, read_where}
use Rattle.pls_scheme.specs.Theorem.{OneIsRight, RightFits, RulesAreMet, RulesShow}
use Rattle.pls_scheme.proofs.Fitting.{within_fits}
use Rattle.pls_scheme.proofs.SaidPorts.{all_ports_pass, passes_port}
use Rattle.pls_facts.specs.Agreement.{AgreeAtPorts}
use Rattle.pls_facts.specs.Pointer.{IsChainOf}
use Rattle.pls_facts.specs.SpanningTree.{IsTree}
use Rattle.pls_facts.proofs.Agreed.{agree_everywhere}
use Rattle.pls_facts.proofs.Bounded.{IsChainOf-short}
use Rattle.pls_facts.proofs.ChainDepths.{chain_of_root, chains_fall}
use Rattle.pls_facts.proofs.Chains.{IsChainOf-one}
use Rattle.pls_facts.proofs.Lists.{some_item}
use Rattle.pls_facts.proofs.Neighbours.{id_within, neighbour_row}
use Rattle.pls_facts.proofs.Pointed.{id_of_row}
use Rattle.pls_facts.proofs.Roots.{a_root}
use Rattle.pls_facts.proofs.Trees.{IsTree-falling}
use Rattle.pls_pointer.specs.declared.tree.TreeLabel.{TreeLabel}
use Rattle.pls_pointer.specs.Tree.{agrees_on_tree_root, points_or_is_root, tree_limits, tree_rules, tree_says, tree_shape}
use Rattle.pls_pointer.specs.inner.Saying.{root_says}
use Rattle.pls_pointer.specs.laws.PointingLaws.{deeper_falls, falls_deeper, points_or}

module _ (say : ℕ → TreeLabel) (row : NodeRow) where
  -- where rule 3 holds, the root at each port is the own one
  agree_at_port : agrees_on_tree_root (read_where say row) ≡ true → (port : Port) → Contains row.ports port
      → (say port.nbr).root ≡ (say row.id).root
  agree_at_port agrees port has =
      eqb-true (say port.nbr).root (say row.id).root
      (passes_port (has_number (λ (label : TreeLabel). label.root) (say row.id).root) say row.ports agrees port has)

  -- where rule 4 holds, a node without pointer is the root
  root_names_itself : points_or_is_root (read_where say row) ≡ true → row.state.up ≡ None
      → row.id ≡ (say row.id).root
  root_names_itself holds none =
      let here : (is_some row.state.up || ((say row.id).depth == 0 && row.id == (say row.id).root))
      ≡ true = holds in
      let at : ((say row.id).depth == 0 && row.id == (say row.id).root) ≡ true = rw none at here in
      eqb-true row.id (say row.id).root (and_parts _ _ at).1

-- where the rules hold everywhere in a connected network, the pointers make a tree
pub tree_show : RulesShow tree_rules IsTree
tree_show rows net joined say hold =
    IsTree-falling rows net (λ id. (say id).depth)
    (deeper_falls (λ (label : TreeLabel). label.depth) say rows net
    (λ row in'. (hold row in').1.1.0))
    (say first.0.id).root same
  where
    agree : AgreeAtPorts rows (λ id. (say id).root)
    agree row port in' has = agree_at_port say row (hold row in').0 port has

    first : (row : NodeRow) × Contains rows row
    first = some_item rows net.limits.some

    same : (row : NodeRow) → Contains rows row → row.state.up ≡ None
        → row.id ≡ (say first.0.id).root
    same row in' up = root_names_itself say row (hold row in').1.0 up
        ∙ agree_everywhere rows (λ id. (say id).root) joined agree row.id first.0.id
        (id_of_row rows row in') (id_of_row rows first.0 first.1)

-- where what is said is right, the rules hold
pub tree_met : RulesAreMet tree_rules IsTree tree_says
tree_met rows net joined tree say right row in' = (
  all_ports_pass (has_number (λ (label : TreeLabel). label.root) (say row.id).root) say row.ports agree,
  (
    points_or row ((say row.id).depth == 0 && row.id == (say row.id).root) at_root,
    (
      falls_deeper (λ (label : TreeLabel). label.depth) say rows net
          (chains_fall rows net (λ id. (say id).depth) chain_of) row in',
      tt,
    ),
  ),
)
  where
    root : (row : NodeRow) × Contains rows row × (row.state.up ≡ None)
    root = a_root rows tree.one_root

    named : (row : NodeRow) → Contains rows row → (say row.id).root ≡ root.0.id
    named row in' = (right row in' root.0 root.1 root.2).0

    chain_of : (row : NodeRow) → Contains rows row
        → (last : ℕ) × IsChainOf rows row.id last (say row.id).depth
    chain_of row in' = (root.0.id, (right row in' root.0 root.1 root.2).1)

    agree : (port : Port) → Contains row.ports port
        → has_number (λ (label : TreeLabel). label.root) (say row.id).root (port_where say port) ≡ true
    agree port has =
        let (other, other_in, is) : (row : NodeRow) × Contains rows row × (row.id ≡ port.nbr) =
        neighbour_row rows net row in' port has in
        eq-eqb (say port.nbr).root (say row.id).root
        (ap (λ (id : ℕ). (say id).root) (sym is) ∙ named other other_in ∙ sym (named row in'))

    at_root : row.state.up ≡ None
        → ((say row.id).depth == 0 && row.id == (say row.id).root) ≡ true
    at_root none = and_from ((say row.id).depth == 0) (row.id == (say row.id).root)
        (eq-eqb (say row.id).depth 0
        (chain_of_root rows net row in' none (chain_of row in').0 (say row.id).depth
        (chain_of row in').1))
        (eq-eqb row.id (say row.id).root (sym (right row in' row in' none).0))

-- one label is right for a node
pub tree_one_right : OneIsRight IsTree tree_says
tree_one_right rows net joined tree row one other in' mine theirs =
    let root : (row : NodeRow) × Contains rows row × (row.state.up ≡ None) =
    a_root rows tree.one_root in
    let a = mine root.0 root.1 root.2 in
    let b = theirs root.0 root.1 root.2 in
    let roots : one.root ≡ other.root = a.0 ∙ sym b.0 in
    let depths : one.depth ≡ other.depth =
    (IsChainOf-one rows row.id root.0.id root.0.id one.depth other.depth a.1 b.1).1 in
    ap (λ (root : ℕ). root_says root one.depth) roots ∙ ap (root_says other.root) depths

-- what is right is short
pub tree_fits : (code : ℕ → List Bool) → Grows code → IsShort code
    → RightFits tree_shape code IsTree tree_says
    (longest_by tree_shape tree_limits code)
tree_fits code grows short rows net joined tree words say right row in' =
    let root : (row : NodeRow) × Contains rows row × (row.state.up ≡ None) =
    a_root rows tree.one_root in
    let here : ((say row.id).root ≡ root.0.id)
    × IsChainOf rows row.id root.0.id (say row.id).depth = right row in' root.0 root.1 root.2 in
    let below : (say row.id).depth < length rows =
    IsChainOf-short rows net row.id root.0.id (say row.id).depth here.1 in
    let within : root.0.id ≤ greatest (ids_of rows) = id_within rows root.0 root.1 in
    within_fits code grows short tree_shape (say row.id) (tree_limits (size_of rows)) refl
    tt (omega arith) (
      omega (arith, here.0, within),
      omega (arith, words.max_id),
      (omega (arith, below), omega (arith, net.limits.few_nodes), tt),
    )
