use Rattle.std.proofs.Common.{◌<◌, length}
use Rattle.pls_boruvka.proofs.Climbing.{Leads, steps}
use Rattle.pls_boruvka.proofs.tops.top_from.Given as goal

abbrev pub invariant-loop-place : goal.invariant-loop-place
invariant-loop-place l = (l.place < length l.parents) × Leads l.parents l.joined l.start l.place

abbrev pub decreases-loop-place : goal.decreases-loop-place
decreases-loop-place l = steps l.parents l.place
