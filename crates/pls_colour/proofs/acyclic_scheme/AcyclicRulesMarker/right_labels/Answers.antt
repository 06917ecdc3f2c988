use Rattle.std.proofs.Common.{◌∙◌, sym, subst}
use Rattle.std.proofs.lemmas.Bool.{false≢true}
use Rattle.pls_facts.specs.Cycle.{IsAcyclic}
use Rattle.pls_scheme.specs.Marked.{AreRight}
use Rattle.pls_scheme.proofs.Deciding.{decided_by_rules}
use Rattle.pls_colour.specs.Acyclic.{acyclic_rules, acyclic_says}
use Rattle.pls_colour.specs.laws.AcyclicLaws.{acyclic_met, acyclic_show}
use Rattle.pls_colour.proofs.acyclic_scheme.AcyclicRulesMarker.right_labels.Goals as goal

pub returns-then-hold_everywhere-clause-holds : goal.returns-then-hold_everywhere-clause-holds
returns-then-hold_everywhere-clause-holds g c =
    let rows = c.args.net.now in
    (decided_by_rules acyclic_rules IsAcyclic acyclic_says acyclic_show acyclic_met rows
    c.is_valid.ensures c.requires c.deref.result.now
    (subst (AreRight (acyclic_says rows) rows) (sym c.deref.ensures.value)
    c.in_ok-labels.ensures) c.hold_everywhere.result c.hold_everywhere.ensures).0
    c.if-hold_everywhere.true

pub returns-else-hold_everywhere-clause-lacking : goal.returns-else-hold_everywhere-clause-lacking
returns-else-hold_everywhere-clause-lacking g c has =
    let rows = c.args.net.now in
    false≢true (sym c.if-hold_everywhere.false
    ∙ (decided_by_rules acyclic_rules IsAcyclic acyclic_says acyclic_show acyclic_met rows
    c.is_valid.ensures c.requires c.deref.result.now
    (subst (AreRight (acyclic_says rows) rows) (sym c.deref.ensures.value)
    c.in_ok-labels.ensures) c.hold_everywhere.result c.hold_everywhere.ensures).1 has)
