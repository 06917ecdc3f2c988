use Rattle.std.proofs.Common.{◌≡◌, [], take}
use Rattle.std.specs.Vec.{vec_capacity}
use Rattle.pls_streams.specs.Gathered.{Wrote}
use Rattle.pls_report.specs.inner.Kept.{joined_text}
use Rattle.pls_report.specs.inner.KeptTexts.{HasRoomForAll, last_lines}
use Rattle.pls_report.proofs.kept_looks.KeptLooks.write.Given as goal

abbrev pub invariant-loop-place : goal.invariant-loop-place
invariant-loop-place g l =
    Wrote l.fn.gathered l.gathered (g.K.Sink.taken l.fn.sink) (g.K.Sink.taken l.sink) (g.K.Sink.faults l.fn.sink)
    (g.K.Sink.faults l.sink) (g.K.Sink.IsSureOf l.fn.sink) (g.K.Sink.IsSureOf l.sink)
    (joined_text (take l.place l.fn.self.texts))
    × (l.before.items ≡ last_lines [] (take l.place l.look-items))
    × HasRoomForAll (vec_capacity l.before) l.look-items
    × HasRoomForAll (vec_capacity l.after) l.look-items
