use Rattle.std.proofs.Common.{◌∙◌, sym, subst, refl}
use Rattle.std.proofs.lemmas.Bool.{false≢true}
use Rattle.pls_scheme.specs.Marked.{AreRight}
use Rattle.pls_scheme.proofs.Deciding.{decided_by_rules}
use Rattle.pls_scheme.proofs.Markings.{right_rows}
use Rattle.pls_scheme_tests.specs.IndependentSet.{IsMaximalIndependent, independent_rules, independent_says, mark_of}
use Rattle.pls_scheme_tests.specs.laws.IndependentSetLaws.{independent_met, independent_show}
use Rattle.pls_scheme_tests.proofs.independent_set.IndependentRulesMarker.right_labels.Goals as goal

pub returns-then-hold_everywhere-clause-right : goal.returns-then-hold_everywhere-clause-right
returns-then-hold_everywhere-clause-right g c =
    let rows = c.args.net.now in
    subst (AreRight (independent_says rows) rows) (sym c.in_ok-labels.ensures)
    (right_rows (independent_says rows) rows mark_of (λ row. refl))

pub returns-then-hold_everywhere-clause-holds : goal.returns-then-hold_everywhere-clause-holds
returns-then-hold_everywhere-clause-holds g c =
    let rows = c.args.net.now in
    (decided_by_rules independent_rules IsMaximalIndependent independent_says independent_show
    independent_met rows c.is_valid.ensures c.requires c.deref.result.now
    (subst (AreRight (independent_says rows) rows)
    (sym (c.deref.ensures.value ∙ c.in_ok-labels.ensures))
    (right_rows (independent_says rows) rows mark_of (λ row. refl)))
    c.hold_everywhere.result c.hold_everywhere.ensures).0 c.if-hold_everywhere.true

pub returns-else-hold_everywhere-clause-lacking : goal.returns-else-hold_everywhere-clause-lacking
returns-else-hold_everywhere-clause-lacking g c has =
    let rows = c.args.net.now in
    false≢true (sym c.if-hold_everywhere.false
    ∙ (decided_by_rules independent_rules IsMaximalIndependent independent_says independent_show
    independent_met rows c.is_valid.ensures c.requires c.deref.result.now
    (subst (AreRight (independent_says rows) rows)
    (sym (c.deref.ensures.value ∙ c.in_ok-labels.ensures))
    (right_rows (independent_says rows) rows mark_of (λ row. refl)))
    c.hold_everywhere.result c.hold_everywhere.ensures).1 has)
