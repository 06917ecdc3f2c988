use Rattle.std.proofs.Common.{◌∙◌, sym, subst, refl}
use Rattle.std.proofs.lemmas.Bool.{false≢true}
use Rattle.pls_scheme.specs.Marked.{AreRight}
use Rattle.pls_scheme.proofs.Deciding.{decided_by_rules}
use Rattle.pls_scheme.proofs.Markings.{right_rows}
use Rattle.pls_example_weights.specs.SameWeights.{HaveSameWeights, first_weights, same_weights_rules, same_weights_says}
use Rattle.pls_example_weights.specs.laws.SameWeightsLaws.{same_weights_met, same_weights_show}
use Rattle.pls_example_weights.proofs.marker.SameWeightsRulesMarker.right_labels.Goals as goal

pub returns-then-hold_everywhere-clause-right : goal.returns-then-hold_everywhere-clause-right
returns-then-hold_everywhere-clause-right g c =
    let rows = c.args.net.now in
    subst (AreRight (same_weights_says rows) rows) (sym c.in_ok-labels.ensures)
    (right_rows (same_weights_says rows) rows first_weights (λ row. refl))

pub returns-then-hold_everywhere-clause-holds : goal.returns-then-hold_everywhere-clause-holds
returns-then-hold_everywhere-clause-holds g c =
    let rows = c.args.net.now in
    (decided_by_rules same_weights_rules HaveSameWeights same_weights_says same_weights_show
    same_weights_met rows c.is_valid.ensures c.requires c.deref.result.now
    (subst (AreRight (same_weights_says rows) rows)
    (sym (c.deref.ensures.value ∙ c.in_ok-labels.ensures))
    (right_rows (same_weights_says rows) rows first_weights (λ row. refl)))
    c.hold_everywhere.result c.hold_everywhere.ensures).0 c.if-hold_everywhere.true

pub returns-else-hold_everywhere-clause-lacking : goal.returns-else-hold_everywhere-clause-lacking
returns-else-hold_everywhere-clause-lacking g c has =
    let rows = c.args.net.now in
    false≢true (sym c.if-hold_everywhere.false
    ∙ (decided_by_rules same_weights_rules HaveSameWeights same_weights_says same_weights_show
    same_weights_met rows c.is_valid.ensures c.requires c.deref.result.now
    (subst (AreRight (same_weights_says rows) rows)
    (sym (c.deref.ensures.value ∙ c.in_ok-labels.ensures))
    (right_rows (same_weights_says rows) rows first_weights (λ row. refl)))
    c.hold_everywhere.result c.hold_everywhere.ensures).1 has)
