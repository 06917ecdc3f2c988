use Rattle.pls_scheme.proofs.LookedAt.{shown_from}
use Rattle.pls_scheme.proofs.Passing.{IsPassed}
use Rattle.pls_numbers.specs.Shape.{said_by}
use Rattle.pls_scheme.proofs.round.verdict_by_all.Given as goal

-- the ports before this place are read
abbrev pub invariant-loop-p : goal.invariant-loop-p
invariant-loop-p g l =
    IsPassed (said_by (g.R.Format.Format.shape (g.R.Judgement.format l.rules)) g.R.Code.NumCode.takes) (g.R.JudgesInPlace.glance l.rules)
    (g.R.JudgesInPlace.tally_of l.rules)
    (shown_from l.net (g.L.Labels.listed l.labels) l.id l.state l.own.bits.now l.ports) l.p l.tally
