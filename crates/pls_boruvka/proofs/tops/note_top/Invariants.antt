use Rattle.std.proofs.Common.{◌<◌, length}
use Rattle.pls_boruvka.specs.inner.Tops.{AreNotedTops, IsTop}
use Rattle.pls_boruvka.proofs.Climbing.{steps}
use Rattle.pls_boruvka.proofs.tops.note_top.Given as goal

abbrev pub invariant-loop-noted : goal.invariant-loop-noted
invariant-loop-noted l =
    (l.place < length l.parents) × IsTop l.parents l.joined l.place l.top
    × AreNotedTops l.parents l.joined l.noted

abbrev pub decreases-loop-noted : goal.decreases-loop-noted
decreases-loop-noted l = steps l.parents l.place
