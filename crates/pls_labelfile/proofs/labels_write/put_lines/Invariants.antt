use Rattle.pls_streams.specs.Gathered.{Wrote}
use Rattle.pls_lines.specs.Text.{text_of}
use Rattle.pls_labelfile.proofs.LabelsWritten.{lines_so_far}
use Rattle.pls_labelfile.proofs.labels_write.put_lines.Given as goal

abbrev pub invariant-loop-place : goal.invariant-loop-place
invariant-loop-place g l =
    Wrote l.fn.gathered l.gathered (g.K.Sink.taken l.fn.sink) (g.K.Sink.taken l.sink)
    (g.K.Sink.faults l.fn.sink) (g.K.Sink.faults l.sink) (g.K.Sink.IsSureOf l.fn.sink)
    (g.K.Sink.IsSureOf l.sink) (text_of (lines_so_far l.fn.code l.net l.labels l.place))
