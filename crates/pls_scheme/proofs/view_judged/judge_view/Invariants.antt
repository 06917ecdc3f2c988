use Rattle.std.proofs.Common.{◌≡◌, take}
use Rattle.pls_scheme.specs.inner.Looks.{seen_above}
use Rattle.pls_scheme.proofs.Passing.{IsPassed}
use Rattle.pls_numbers.specs.Shape.{said_by}
use Rattle.pls_scheme.proofs.view_judged.judge_view.Given as goal

-- the ports before this place are read, and what is seen above at them
abbrev pub invariant-loop-place : goal.invariant-loop-place
invariant-loop-place g l = record {
  passed : IsPassed (said_by (g.R.Format.Format.shape (g.R.Judgement.format l.rules)) g.R.Code.NumCode.takes) (g.R.JudgesInPlace.glance l.rules)
      (g.R.JudgesInPlace.tally_of l.rules) l.view l.place l.tally;
  above : l.above ≡ seen_above (said_by (g.R.Format.Format.shape (g.R.Judgement.format l.rules)) g.R.Code.NumCode.takes) (g.R.JudgesInPlace.glance l.rules)
      (take l.place l.view.ports) l.view.state.up;
}
