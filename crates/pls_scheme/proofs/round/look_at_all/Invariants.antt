use Rattle.std.proofs.Common.{◌≡◌, map, take}
use Rattle.pls_scheme.specs.inner.Looks.{seen_in}
use Rattle.pls_numbers.specs.Shape.{said_by}
use Rattle.pls_scheme.proofs.round.look_at_all.Given as goal

-- the labels so far were looked at
abbrev pub invariant-loop-i : goal.invariant-loop-i
invariant-loop-i g l =
    l.looked.items ≡ map (seen_in (said_by (g.R.Format.Format.shape (g.R.Judgement.format l.rules)) g.R.Code.NumCode.takes) (g.R.JudgesInPlace.glance l.rules))
    (take l.i (g.L.Labels.listed l.labels))
