-- The theorem of the scheme of networks without cycle.
use Rattle.std.proofs.Common.{◌≡◌, ◌∙◌, ℕ, ◌+◌, ◌<◌, ◌≤◌, ◌==◌, ◌||◌, ◌⊎◌, inl, inr, Bool, true, false, List, length, map, Contains, Some, slice_get, nat_le, count_by, refl, sym, ap, subst, arith}
use Rattle.std.proofs.lemmas.Bool.{eq-eqb, eqb-true, le-leb, leb-true, or_cases}
use Rattle.pls_bits.specs.NumberCode.{Grows, IsShort}
use Rattle.pls_configuration.specs.declared.row.Port.{Port}
use Rattle.pls_configuration.specs.declared.row.NodeRow.{NodeRow}
use Rattle.pls_configuration.specs.Configuration.{IsNetwork, ids_of}
use Rattle.pls_configuration.specs.Walk.{edges_of}
use Rattle.pls_graph.specs.Levels.{IsLevel}
use Rattle.pls_graph.specs.Size.{size_of}
use Rattle.pls_scheme.specs.Basic.{longest_by}
use Rattle.pls_scheme.specs.Reading.{read_where, port_where}
use Rattle.pls_scheme.specs.Theorem.{AreRightEverywhere, OneIsRight, RightFits, RulesAreMet, RulesShow}
use Rattle.pls_scheme.proofs.Fitting.{within_fits}
use Rattle.pls_scheme.proofs.SaidPorts.{all_ports_pass, passes_port}
use Rattle.pls_facts.specs.Cycle.{AreSearched, IsAcyclic}
use Rattle.pls_facts.proofs.CycleDepths.{acyclic_by_depths, searched_differ, searched_one_above}
use Rattle.pls_facts.proofs.Levels.{levels_searched}
use Rattle.pls_graph.proofs.Finds.{item_at}
use Rattle.pls_facts.proofs.Lists.{count_by-map}
use Rattle.pls_facts.proofs.Neighbours.{adjacent_known}
use Rattle.pls_colour.specs.declared.acyclic.AcyclicLabel.{AcyclicLabel}
use Rattle.pls_colour.specs.Acyclic.{acyclic_limits, acyclic_rules, acyclic_says, acyclic_shape, acyclic_label_at, differs_by_one, has_one_above, is_above, is_beside}
use Rattle.pls_colour.specs.laws.LevelLaws.{AreSaidLevels, one_level_label, said_levels}

-- the rules on what labels say, from the depths at the ports of a row
module _ (say : ℕ → AcyclicLabel) (row : NodeRow) where
  -- depths that differ by one meet rule 3
  meets_rule_3 : ((port : Port) → Contains row.ports port
      → ((say port.nbr).depth ≡ (say row.id).depth + 1)
      ⊎ ((say row.id).depth ≡ (say port.nbr).depth + 1))
      → differs_by_one (read_where say row) ≡ true
  meets_rule_3 differ = all_ports_pass (is_beside (say row.id).depth) say row.ports passes
    where
      either : (one other : Bool) → (one ≡ true) ⊎ (other ≡ true) → (one || other) ≡ true
      either true other holds = refl
      either false true holds = refl
      either false false holds = elim holds [ inl one ↦ one | inr other ↦ other ]

      passes : (port : Port) → Contains row.ports port
          → is_beside (say row.id).depth (port_where say port) ≡ true
      passes port has =
          let own : ℕ = (say row.id).depth in
          let other : ℕ = (say port.nbr).depth in
          either (other == own + 1) (own == other + 1) (elim (differ port has) [
            | inl deeper ↦ inl (eq-eqb other (own + 1) deeper)
            | inr less ↦ inr (eq-eqb own (other + 1) less)
          ])

  -- with one less deep neighbour at most, rule 4 is met
  meets_rule_4 : count_by (λ (port : Port). (say port.nbr).depth + 1 == (say row.id).depth)
      row.ports ≤ 1 → has_one_above (read_where say row) ≡ true
  meets_rule_4 few =
      ap (λ (count : ℕ). nat_le count 1)
      (count_by-map (is_above (say row.id).depth) (port_where say) row.ports)
      ∙ le-leb (count_by (λ (port : Port). (say port.nbr).depth + 1 == (say row.id).depth)
      row.ports) 1 few

-- where the rules hold everywhere, there is no cycle
pub acyclic_show : RulesShow acyclic_rules IsAcyclic
acyclic_show rows net joined say hold =
    acyclic_by_depths rows net (λ id. (say id).depth)
    (λ row port in' has.
    let own : ℕ = (say row.id).depth in
    let other : ℕ = (say port.nbr).depth in
    elim (or_cases (other == own + 1) (own == other + 1)
    (passes_port (is_beside own) say row.ports (hold row in').0 port has)) [
      | inl deeper ↦ inl (eqb-true other (own + 1) deeper)
      | inr less ↦ inr (eqb-true own (other + 1) less)
    ])
    (λ row in'. subst (λ (count : ℕ). count ≤ 1)
    (count_by-map (is_above (say row.id).depth) (port_where say) row.ports)
    (leb-true (count_by (is_above (say row.id).depth) (map (port_where say) row.ports)) 1
    (hold row in').1.0))

module _ (rows : List NodeRow) (net : IsNetwork rows) (say : ℕ → AcyclicLabel)
    (right : AreRightEverywhere (acyclic_says rows) rows say) where
  first : (first : NodeRow) × (slice_get rows 0 ≡ Some first)
  first = item_at rows 0 (let some = net.limits.some in omega (arith, some))

  -- the depths are levels
  levels : AreSaidLevels rows first.0.id (λ id. (say id).depth)
  levels = said_levels rows net first.0.id (λ id. (say id).depth) (λ row in'.
      let here = right row in' first.0 first.1 in
      subst (IsLevel (edges_of rows) first.0.id row.id)
      (sym (ap (λ (label : AcyclicLabel). label.depth) here.2)) here.1)

  -- as a search gives them
  searched : AreSearched (edges_of rows) (ids_of rows) (λ id. (say id).depth)
  searched =
      levels_searched (edges_of rows) (ids_of rows) first.0.id (λ id. (say id).depth)
      (adjacent_known rows net) levels.is

-- where what is said is right, the rules hold
pub acyclic_met : RulesAreMet acyclic_rules IsAcyclic acyclic_says
acyclic_met rows net joined acyclic say right row in' = (
  meets_rule_3 say row (λ port has. searched_differ rows net (λ id. (say id).depth)
      (searched rows net say right) acyclic row port in' has),
  (
    meets_rule_4 say row (searched_one_above rows net (λ id. (say id).depth)
        (searched rows net say right) acyclic row in'),
    tt,
  ),
)

-- one label is right for a node
pub acyclic_one_right : OneIsRight IsAcyclic acyclic_says
acyclic_one_right rows net joined acyclic row one other in' =
    one_level_label acyclic_label_at rows net row one other

-- what is right is short
pub acyclic_fits : (code : ℕ → List Bool) → Grows code → IsShort code
    → RightFits acyclic_shape code IsAcyclic acyclic_says
    (longest_by acyclic_shape acyclic_limits code)
acyclic_fits code grows short rows net joined acyclic words say right row in' =
    let below : (say row.id).depth < length rows = (levels rows net say right).below row in' in
    within_fits code grows short acyclic_shape (say row.id) (acyclic_limits (size_of rows)) refl
    tt (omega arith) (omega (arith, below), omega (arith, net.limits.few_nodes), tt)
