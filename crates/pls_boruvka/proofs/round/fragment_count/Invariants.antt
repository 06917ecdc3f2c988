use Rattle.std.proofs.Common.{◌≤◌}
use Rattle.pls_boruvka.proofs.round.fragment_count.Given as goal

abbrev pub invariant-loop-place : goal.invariant-loop-place
invariant-loop-place l = l.count ≤ l.place
