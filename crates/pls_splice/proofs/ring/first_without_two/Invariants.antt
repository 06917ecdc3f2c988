use Rattle.std.proofs.Common.{◌≡◌, find, drop}
use Rattle.pls_splice.specs.Ring.{has_not_two}
use Rattle.pls_splice.proofs.ring.first_without_two.Given as goal

abbrev pub invariant-loop-i : goal.invariant-loop-i
invariant-loop-i l = find has_not_two (drop l.i l.net) ≡ find has_not_two l.net
