-- The theorem of the scheme of maximal independent sets.
use Rattle.std.proofs.Common.{◌≡◌, ◌∙◌, ℕ, ◌==◌, ◌&&◌, ◌||◌, Bool, true, false, not, inl, inr, List, [], ◌∷◌, map, Contains, refl, sym, ap, subst, arith}
use Rattle.std.specs.List.{list_any}
use Rattle.std.proofs.lemmas.Bool.{eq-eqb, eqb-true, or_cases}
use Rattle.pls_bits.specs.NumberCode.{Grows, IsShort}
use Rattle.pls_configuration.specs.declared.row.NodeRow.{NodeRow}
use Rattle.pls_configuration.specs.declared.row.Port.{Port}
use Rattle.pls_configuration.specs.Configuration.{IsNetwork}
use Rattle.pls_configuration.specs.Walk.{Adjacent, edges_of}
use Rattle.pls_graph.specs.Size.{greatest}
use Rattle.pls_scheme.specs.Basic.{longest_by}
use Rattle.pls_scheme.specs.Reading.{port_where}
use Rattle.pls_scheme.specs.Theorem.{HoldEverywhere, OneIsRight, RightFits, RulesAreMet, RulesShow}
use Rattle.pls_scheme.proofs.Fitting.{within_fits}
use Rattle.pls_scheme.proofs.SaidPorts.{passes_at_some, some_port_passes}
use Rattle.pls_facts.proofs.Neighbours.{neighbour_row, port_adjacent, port_leads, within_greatest}
use Rattle.pls_scheme_tests.specs.declared.independent_set.MarkLabel.{MarkLabel}
use Rattle.pls_scheme_tests.specs.IndependentSet.{IsInside, IsMaximalIndependent, independent_limits, independent_rules, independent_says, is_inside, mark_shape}

-- tests of which not both pass, and of which one does
not_both : (a b : Bool) → (a ≡ true → b ≡ true → ⊥) → not (a && b) ≡ true
not_both true true both = absurd (both refl refl)
not_both true false both = refl
not_both false b both = refl

apart : (a b : Bool) → not (a && b) ≡ true → a ≡ true → b ≡ true → ⊥
apart true true holds one two = absurd (cc)
apart true false holds one two = absurd (cc)
apart false b holds one two = absurd (cc)

one_of : (a b : Bool) → ((a ≡ true → ⊥) → b ≡ true) → (a || b) ≡ true
one_of true b other = refl
one_of false b other = other (λ same. absurd (cc))

module _ (rows : List NodeRow) (net : IsNetwork rows) (say : ℕ → MarkLabel) where
  -- where rule 3 holds everywhere, a node whose label says 1 is in the set, and the other way round
  module _ (hold : HoldEverywhere independent_rules rows say) where
    marks : (row : NodeRow) → Contains rows row → (say row.id).mark ≡ row.state.mark
    marks row in' = eqb-true (say row.id).mark row.state.mark (hold row in').0

    -- no edge joins two nodes of the set
    none_beside : (u v : ℕ) → Adjacent (edges_of rows) u v → IsInside rows u → IsInside rows v → ⊥
    none_beside u v step (one, one_in, is_u, one_marked) (other, other_in, is_v, other_marked) =
        let (port, has, names) : (port : Port) × Contains one.ports port × (port.nbr ≡ v) =
        port_leads rows net one one_in v
        (subst (λ (id : ℕ). Adjacent (edges_of rows) id v) (sym is_u) step) in
        let own : (say one.id).mark ≡ 1 = marks one one_in ∙ one_marked in
        let there : (say port.nbr).mark ≡ 1 =
        ap (λ (id : ℕ). (say id).mark) (names ∙ sym is_v) ∙ marks other other_in
        ∙ other_marked in
        apart ((say one.id).mark == 1) (list_any is_inside (map (port_where say) one.ports))
        (hold one one_in).1.0 (eq-eqb (say one.id).mark 1 own)
        (some_port_passes is_inside say one.ports port has (eq-eqb (say port.nbr).mark 1 there))

    -- a node outside is adjacent to one of the set
    some_beside : (row : NodeRow) → Contains rows row → (row.state.mark ≡ 1 → ⊥)
        → (other : ℕ) × Adjacent (edges_of rows) row.id other × IsInside rows other
    some_beside row in' outside =
        elim (or_cases ((say row.id).mark == 1)
        (list_any is_inside (map (port_where say) row.ports)) (hold row in').1.1.0) [
          | inl inside ↦ absurd (outside (sym (marks row in')
              ∙ eqb-true (say row.id).mark 1 inside))
          | inr some ↦
              let (port, has, passes) = passes_at_some is_inside say row.ports some in
              let (other, other_in, named) : (other : NodeRow) × Contains rows other
              × (other.id ≡ port.nbr) = neighbour_row rows net row in' port has in
              let marked : other.state.mark ≡ 1 =
              sym (marks other other_in) ∙ ap (λ (id : ℕ). (say id).mark) named
              ∙ eqb-true (say port.nbr).mark 1 passes in (
                port.nbr,
                (port_adjacent rows net row port in' has).0,
                (other, other_in, named, marked),
              )
        ]

-- where the rules hold everywhere, the set is maximal independent
pub independent_show : RulesShow independent_rules IsMaximalIndependent
independent_show rows net joined say hold =
    (none_beside rows net say hold, some_beside rows net say hold)

-- where each label says its node's mark, the rules hold of a maximal independent set
pub independent_met : RulesAreMet independent_rules IsMaximalIndependent independent_says
independent_met rows net joined set say right row in' = (
  eq-eqb (say row.id).mark row.state.mark (mark row in'),
  (
    not_both _ _ independent,
    (one_of _ _ maximal, tt),
  ),
)
  where
    mark : (row : NodeRow) → Contains rows row → (say row.id).mark ≡ row.state.mark
    mark row in' = ap (λ (label : MarkLabel). label.mark) (right row in')

    independent : ((say row.id).mark == 1) ≡ true
        → list_any is_inside (map (port_where say) row.ports) ≡ true → ⊥
    independent inside some =
        let (port, has, passes) = passes_at_some is_inside say row.ports some in
        let (other, other_in, named) : (other : NodeRow) × Contains rows other
        × (other.id ≡ port.nbr) = neighbour_row rows net row in' port has in
        set.0 row.id port.nbr (port_adjacent rows net row port in' has).0
        (row, in', refl, sym (mark row in') ∙ eqb-true (say row.id).mark 1 inside) (
          other,
          other_in,
          named,
          sym (mark other other_in)
              ∙ ap (λ (id : ℕ). (say id).mark) named ∙ eqb-true (say port.nbr).mark 1 passes,
        )

    maximal : (((say row.id).mark == 1) ≡ true → ⊥)
        → list_any is_inside (map (port_where say) row.ports) ≡ true
    maximal outside =
        let (id, step, (other, other_in, is, marked)) = set.1 row in'
        (λ one. outside (eq-eqb (say row.id).mark 1 (mark row in' ∙ one))) in
        let (port, has, names) : (port : Port) × Contains row.ports port × (port.nbr ≡ id) =
        port_leads rows net row in' id step in
        some_port_passes is_inside say row.ports port has (eq-eqb (say port.nbr).mark 1
        (ap (λ (id : ℕ). (say id).mark) (names ∙ sym is) ∙ mark other other_in ∙ marked))

-- one label is right for a node
pub independent_one_right : OneIsRight IsMaximalIndependent independent_says
independent_one_right rows net joined set row one other in' mine theirs = mine ∙ sym theirs

-- what is right is short
pub independent_fits : (code : ℕ → List Bool) → Grows code → IsShort code
    → RightFits mark_shape code IsMaximalIndependent independent_says
    (longest_by mark_shape independent_limits code)
independent_fits code grows short rows net joined set words say right row in' =
    let is = ap (λ (label : MarkLabel). label.mark) (right row in') in
    let within = within_greatest (λ row. row.state.mark) rows row in' in
    within_fits code grows short mark_shape (say row.id)
    (greatest (map (λ row. row.state.mark) rows) ∷ []) refl tt (omega arith)
    (omega (arith, is, within), omega (arith, words.max_mark), tt)
