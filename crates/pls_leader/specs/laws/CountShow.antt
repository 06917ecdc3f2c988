-- Where the rules of the number of nodes hold everywhere, each node's number is the number of
-- nodes.
use Rattle.std.proofs.Common.{◌≡◌, ◌≢◌, ◌∙◌, ℕ, ◌+◌, ◌≤◌, ◌==◌, inl, inr, nat_lt, true, List, map, Contains, sym, ap, arith}
use Rattle.std.proofs.lemmas.Bool.{and_parts, cases_eq, eqb-true, or_cases}
use Rattle.pls_configuration.specs.declared.row.Port.{Port}
use Rattle.pls_configuration.specs.declared.row.NodeRow.{NodeRow}
use Rattle.pls_configuration.specs.Configuration.{IsNetwork}
use Rattle.pls_configuration.specs.Walk.{IsConnected}
use Rattle.pls_scheme.specs.Reading.{port_where}
use Rattle.pls_scheme.specs.Theorem.{HoldEverywhere, RulesShow}
use Rattle.pls_scheme.proofs.SaidPorts.{passes_at_some, passes_port}
use Rattle.pls_facts.specs.Descent.{AreRooted, IsTheRoot}
use Rattle.pls_facts.specs.NodeCount.{AreCounted}
use Rattle.pls_facts.specs.TreeSums.{AreSummed, HaveParents, of_children}
use Rattle.pls_facts.proofs.Agreed.{agree_everywhere}
use Rattle.pls_facts.proofs.Descent.{the_root}
use Rattle.pls_facts.proofs.Neighbours.{neighbour_row}
use Rattle.pls_facts.proofs.Pointed.{id_of_row}
use Rattle.pls_facts.proofs.Sums.{sum-filter, sum-map, when}
use Rattle.pls_facts.proofs.TreeSums.{sums_count}
use Rattle.pls_leader.specs.declared.count.CountLabel.{CountLabel}
use Rattle.pls_leader.specs.Count.{names_root_and_total, children_sizes, count_rules, is_own_child, is_parent_above}
use Rattle.pls_leader.specs.laws.RootedLaws.{root_where_0}

-- the sizes of the children, as the ports of a row show them
pub children_said : (say : ℕ → CountLabel) (row : NodeRow)
    → children_sizes row.id (map (port_where say) row.ports)
    ≡ of_children (λ id. (say id).parent) (λ id. (say id).size) row
children_said say row =
    sum-filter (is_own_child row.id) (λ port. port.label.size) (map (port_where say) row.ports)
    ∙ sum-map (port_where say) (λ port. when (is_own_child row.id port) port.label.size) row.ports
    ∙ sym (sum-filter (λ port. row.id == (say port.nbr).parent) (λ port. (say port.nbr).size)
    row.ports)

module _ (rows : List NodeRow) (net : IsNetwork rows) (joined : IsConnected rows)
    (say : ℕ → CountLabel) (hold : HoldEverywhere count_rules rows say) where
  -- what a node and a neighbour say alike
  agree_at : (row : NodeRow) (port : Port) → Contains rows row → Contains row.ports port
      → ((say port.nbr).root ≡ (say row.id).root) × ((say port.nbr).total ≡ (say row.id).total)
  agree_at row port in' has =
      let both = and_parts ((say port.nbr).root == (say row.id).root)
      ((say port.nbr).total == (say row.id).total)
      (passes_port (names_root_and_total (say row.id)) say row.ports (hold row in').0 port has) in (
        eqb-true (say port.nbr).root (say row.id).root both.0,
        eqb-true (say port.nbr).total (say row.id).total both.1,
      )

  -- what a node says of itself
  itself : (row : NodeRow) → Contains rows row
      → ((say row.id).own ≡ row.id) × ((say row.id).total ≡ row.state.num)
  itself row in' =
      let both = and_parts ((say row.id).own == row.id) ((say row.id).total == row.state.num)
      (hold row in').1.0 in
      (eqb-true (say row.id).own row.id both.0, eqb-true (say row.id).total row.state.num both.1)

  -- a node that is not at depth 0 has its parent beside it, one less deep
  above : (row : NodeRow) → Contains rows row → 1 ≤ (say row.id).depth
      → (port : Port) × Contains row.ports port × (port.nbr ≡ (say row.id).parent)
      × ((say row.id).depth ≡ (say port.nbr).depth + 1)
  above row in' some = elim (or_cases ((say row.id).depth == 0) _ (hold row in').1.1.1.1.0) [
    | inl none ↦ absurd (let is = eqb-true (say row.id).depth 0 none in omega (arith, some, is))
    | inr falls ↦
        let (port, has, passes) : (port : Port) × Contains row.ports port
        × (is_parent_above (say row.id) (port_where say port) ≡ true) =
        passes_at_some (is_parent_above (say row.id)) say row.ports falls in
        let both = and_parts ((say port.nbr).own == (say row.id).parent)
        ((say row.id).depth == (say port.nbr).depth + 1) passes in
        let (other, other_in, is) : (other : NodeRow) × Contains rows other
        × (other.id ≡ port.nbr) =
        neighbour_row rows net row in' port has in
        let own : (say port.nbr).own ≡ port.nbr =
        ap (λ (id : ℕ). (say id).own) (sym is) ∙ (itself other other_in).0 ∙ is in (
          port,
          has,
          sym own ∙ eqb-true (say port.nbr).own (say row.id).parent both.0,
          eqb-true (say row.id).depth ((say port.nbr).depth + 1) both.1,
        )
  ]

  rooted : AreRooted rows (λ id. (say id).root) (λ id. (say id).depth)
  rooted = record {
    agree = λ row port in' has. (agree_at row port in' has).0;
    falls = λ row in' some. let up = above row in' some in (up.0, up.1, up.3);
    at_root = λ row in'. root_where_0 row.id (say row.id).root (say row.id).depth
        (hold row in').1.1.0;
  }

  root : (row : NodeRow) × IsTheRoot rows (λ id. (say id).root) (λ id. (say id).depth) row
  root = the_root rows net joined (λ id. (say id).root) (λ id. (say id).depth) rooted

  -- the root's parent is the root, and its size the total
  whole : ((say root.0.id).parent ≡ root.0.id) × ((say root.0.id).size ≡ (say root.0.id).total)
  whole =
      elim (or_cases (nat_lt 0 (say root.0.id).depth) _ (hold root.0 root.1.in').1.1.1.0) [
        | inl deep ↦ absurd (let at_0 = root.1.at_0 in let no : nat_lt 0 0 ≡ true = rw at_0 at deep in cc)
        | inr both ↦
            let parts = and_parts ((say root.0.id).parent == root.0.id)
            ((say root.0.id).size == (say root.0.id).total) both in (
              eqb-true (say root.0.id).parent root.0.id parts.0,
              eqb-true (say root.0.id).size (say root.0.id).total parts.1,
            )
      ]

  parents : HaveParents rows root.0.id (λ id. (say id).parent)
  parents = record { at_root = whole.0; beside = beside }
    where
      beside : (row : NodeRow) → Contains rows row → row.id ≢ root.0.id
          → (port : Port) × Contains row.ports port × (port.nbr ≡ (say row.id).parent)
      beside row in' apart = elim (cases_eq (say row.id).depth 0) [
        | inl none ↦ absurd (apart (root.1.alone row in' none))
        | inr some ↦ let up = above row in' (grind (arith)) in (up.0, up.1, up.2)
      ]

  summed : AreSummed rows (λ id. (say id).parent) (λ id. (say id).size)
  summed row in' =
      let is : (say row.id).size ≡ children_sizes row.id (map (port_where say) row.ports) + 1 =
      eqb-true (say row.id).size (children_sizes row.id (map (port_where say) row.ports) + 1)
      (hold row in').1.1.1.1.1.0 in
      omega (arith, is, children_said say row)

  -- so each node's number is the number of nodes
  pub all_counted : AreCounted rows
  all_counted row in' =
      sym (itself row in').1
      ∙ agree_everywhere rows (λ id. (say id).total) joined
      (λ row port in' has. (agree_at row port in' has).1) row.id root.0.id (id_of_row rows row in')
      (id_of_row rows root.0 root.1.in')
      ∙ sym whole.1
      ∙ sums_count rows net root.0 root.1.in' (λ id. (say id).parent) parents
      (λ id. (say id).size) summed

pub count_show : RulesShow count_rules AreCounted
count_show rows net joined say hold = all_counted rows net joined say hold
