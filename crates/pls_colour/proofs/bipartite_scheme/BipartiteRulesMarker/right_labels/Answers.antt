use Rattle.std.proofs.Common.{◌∙◌, sym, subst}
use Rattle.std.proofs.lemmas.Bool.{false≢true}
use Rattle.pls_facts.specs.Bipartite.{IsBipartite}
use Rattle.pls_scheme.specs.Marked.{AreRight}
use Rattle.pls_scheme.proofs.Deciding.{decided_by_rules}
use Rattle.pls_colour.specs.Bipartite.{bipartite_rules, bipartite_says}
use Rattle.pls_colour.specs.laws.BipartiteLaws.{bipartite_met, bipartite_show}
use Rattle.pls_colour.proofs.bipartite_scheme.BipartiteRulesMarker.right_labels.Goals as goal

pub returns-then-hold_everywhere-clause-holds : goal.returns-then-hold_everywhere-clause-holds
returns-then-hold_everywhere-clause-holds g c =
    let rows = c.args.net.now in
    (decided_by_rules bipartite_rules IsBipartite bipartite_says bipartite_show bipartite_met rows
    c.is_valid.ensures c.requires c.deref.result.now
    (subst (AreRight (bipartite_says rows) rows) (sym c.deref.ensures.value)
    c.in_ok-labels.ensures) c.hold_everywhere.result c.hold_everywhere.ensures).0
    c.if-hold_everywhere.true

pub returns-else-hold_everywhere-clause-lacking : goal.returns-else-hold_everywhere-clause-lacking
returns-else-hold_everywhere-clause-lacking g c has =
    let rows = c.args.net.now in
    false≢true (sym c.if-hold_everywhere.false
    ∙ (decided_by_rules bipartite_rules IsBipartite bipartite_says bipartite_show bipartite_met rows
    c.is_valid.ensures c.requires c.deref.result.now
    (subst (AreRight (bipartite_says rows) rows) (sym c.deref.ensures.value)
    c.in_ok-labels.ensures) c.hold_everywhere.result c.hold_everywhere.ensures).1 has)
