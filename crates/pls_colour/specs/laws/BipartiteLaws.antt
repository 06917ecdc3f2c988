-- The theorem of the scheme of two-colourings.
use Rattle.std.proofs.Common.{◌≡◌, ◌≢◌, ◌∙◌, ℕ, ◌≤◌, Bool, true, false, List, Contains, Some, slice_get, refl, sym, ap, subst, arith}
use Rattle.pls_bits.specs.Bytes.{weigh}
use Rattle.pls_configuration.specs.declared.row.Port.{Port}
use Rattle.pls_configuration.specs.declared.row.NodeRow.{NodeRow}
use Rattle.pls_configuration.specs.Walk.{edges_of}
use Rattle.pls_graph.specs.Levels.{IsLevel}
use Rattle.pls_scheme.specs.Reading.{port_where}
use Rattle.pls_scheme.specs.Basic.{longest_by}
use Rattle.pls_scheme.specs.Theorem.{OneIsRight, RightFits, RulesAreMet, RulesShow}
use Rattle.pls_scheme.proofs.SaidPorts.{all_ports_pass, passes_port}
use Rattle.pls_facts.specs.Bipartite.{IsBipartite, is_odd, differ}
use Rattle.pls_facts.proofs.Colourings.{colours_at_ports, parities_differ}
use Rattle.pls_graph.proofs.Finds.{item_at}
use Rattle.pls_facts.proofs.Neighbours.{neighbour_row}
use Rattle.pls_colour.specs.declared.colour_format.ColourLabel.{ColourLabel}
use Rattle.pls_colour.specs.Bipartite.{bipartite_limits, bipartite_rules, bipartite_says, colour_shape, differs_from, parity_label}
use Rattle.pls_colour.specs.laws.LevelLaws.{one_level_label}

-- colours that differ are not the same
differ-apart : (one other : Bool) → differ one other ≡ true → one ≢ other
differ-apart true true differs same = cc
differ-apart true false differs same = cc
differ-apart false true differs same = cc
differ-apart false false differs same = cc

-- two colours that are not the same differ
two_differ : (one other : Bool) → one ≢ other → differ one other ≡ true
two_differ true true differs = absurd (differs refl)
two_differ true false differs = refl
two_differ false true differs = refl
two_differ false false differs = absurd (differs refl)

-- where the rules hold everywhere, what is said is a two-colouring
pub bipartite_show : RulesShow bipartite_rules IsBipartite
bipartite_show rows net joined say hold = (
  λ id. (say id).colour,
  colours_at_ports rows (λ id. (say id).colour) (λ row port in' has.
      differ-apart (say row.id).colour (say port.nbr).colour
      (passes_port (differs_from (say row.id).colour) say row.ports (hold row in').0 port has)),
)

-- where what is said is right, the rules hold
pub bipartite_met : RulesAreMet bipartite_rules IsBipartite bipartite_says
bipartite_met rows net joined bipartite say right row in' =
    (all_ports_pass (differs_from (say row.id).colour) say row.ports passes, tt)
  where
    first : (first : NodeRow) × (slice_get rows 0 ≡ Some first)
    first = item_at rows 0 (let some = net.limits.some in omega (arith, some))

    passes : (port : Port) → Contains row.ports port
        → differs_from (say row.id).colour (port_where say port) ≡ true
    passes port has =
        let (other, other_in, named) : (other : NodeRow) × Contains rows other
        × (other.id ≡ port.nbr) = neighbour_row rows net row in' port has in
        let near = right row in' first.0 first.1 in
        let far = right other other_in first.0 first.1 in
        let there : IsLevel (edges_of rows) first.0.id port.nbr far.0 =
        subst (λ (id : ℕ). IsLevel (edges_of rows) first.0.id id far.0) named far.1 in
        let own : (say row.id).colour ≡ is_odd near.0 =
        ap (λ (label : ColourLabel). label.colour) near.2 in
        let others : (say port.nbr).colour ≡ is_odd far.0 =
        ap (λ (id : ℕ). (say id).colour) (sym named)
        ∙ ap (λ (label : ColourLabel). label.colour) far.2 in
        two_differ (say row.id).colour (say port.nbr).colour (λ same.
        parities_differ rows net bipartite first.0.id row port near.0 far.0 in' has near.1 there
        (sym own ∙ same ∙ others))

-- one label is right for a node
pub bipartite_one_right : OneIsRight IsBipartite bipartite_says
bipartite_one_right rows net joined bipartite row one other in' =
    one_level_label parity_label rows net row one other

-- what is right is short
pub bipartite_fits : (code : ℕ → List Bool)
    → RightFits colour_shape code IsBipartite bipartite_says
    (longest_by colour_shape bipartite_limits code)
bipartite_fits code rows net joined bipartite words say right row in' = record {
  writable = record { coded = (small (say row.id).colour, tt); proper = tt };
  short = omega arith;
}
  where
    small : (colour : Bool) → weigh colour ≤ 1
    small true = omega arith
    small false = omega arith
