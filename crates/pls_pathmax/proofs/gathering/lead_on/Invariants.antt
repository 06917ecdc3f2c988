use Rattle.std.proofs.Common.{◌≡◌, ◌<◌, ℕ, true, false, get_or}
use Rattle.pls_pathmax.proofs.gathering.lead_on.Given as goal

-- a port leads on from each level so far
abbrev pub invariant-loop-number : goal.invariant-loop-number
invariant-loop-number l = (k : ℕ) → k < l.number → get_or l.led_on k false ≡ true
