use Rattle.std.proofs.Common.{◌≡◌}
use Rattle.pls_trial.proofs.Pointing.{pointed_to}
use Rattle.pls_trial.proofs.trial.point.Given as goal

abbrev pub invariant-loop-i : goal.invariant-loop-i
invariant-loop-i l = l.net ≡ pointed_to l.fn.net l.i
