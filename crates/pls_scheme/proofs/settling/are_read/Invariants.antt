use Rattle.std.proofs.Common.{◌≡◌, ◌<◌, ℕ, is_some, true}
use Rattle.pls_scheme.specs.inner.Looks.{kept_at_port}
use Rattle.pls_scheme.proofs.settling.are_read.Given as goal

-- the labels at the places before this one can be read
abbrev pub invariant-loop-p : goal.invariant-loop-p
invariant-loop-p g l =
    (k : ℕ) → k < l.p → is_some (kept_at_port g.E.GlanceMemory.glance_in_memory l.looked l.places k) ≡ true
