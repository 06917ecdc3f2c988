use Rattle.pls_components.proofs.Local.{verdict_same, view_same}
use Rattle.pls_components.proofs.laws.local_parts.Goals as goal

pub returns-clause-views : goal.returns-clause-views
returns-clause-views g c = λ places j in' at.
    view_same c.args.net.now c.is_valid.ensures c.args.labels.now c.requires.each places
    (c.requires.made.each places in') c.args.i j at

pub returns-clause-verdicts : goal.returns-clause-verdicts
returns-clause-verdicts g c = λ places j in' at.
    verdict_same c.args.net.now c.is_valid.ensures c.args.labels.now c.requires.each places
    (c.requires.made.each places in') (g.K.Checker.judge c.args.checker.now) c.args.i j at
