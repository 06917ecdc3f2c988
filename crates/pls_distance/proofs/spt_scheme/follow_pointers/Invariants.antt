use Rattle.std.proofs.Common.{ℕ, ◌<◌}
use Rattle.pls_distance.specs.inner.Following.{IsFollowed}
use Rattle.pls_distance.proofs.spt_scheme.follow_pointers.Given as goal

abbrev pub invariant-loop-place : goal.invariant-loop-place
invariant-loop-place l = (place : ℕ) → place < l.place → IsFollowed l.net l.found place
