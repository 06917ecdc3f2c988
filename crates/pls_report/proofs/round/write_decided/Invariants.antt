use Rattle.std.proofs.Common.{map, take}
use Rattle.pls_lines.specs.Text.{text_of}
use Rattle.pls_report.specs.Report.{decided_line}
use Rattle.pls_streams.specs.Gathered.{Wrote}
use Rattle.pls_report.proofs.round.write_decided.Given as goal

abbrev pub invariant-loop-id : goal.invariant-loop-id
invariant-loop-id g l =
    Wrote l.fn.gathered l.gathered (g.K.Sink.taken l.fn.sink) (g.K.Sink.taken l.sink) (g.K.Sink.faults l.fn.sink)
    (g.K.Sink.faults l.sink) (g.K.Sink.IsSureOf l.fn.sink) (g.K.Sink.IsSureOf l.sink)
    (text_of (map decided_line (take l.id-index l.rows)))
