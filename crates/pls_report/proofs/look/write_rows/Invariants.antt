use Rattle.std.proofs.Common.{map, take}
use Rattle.pls_lines.specs.Text.{text_of}
use Rattle.pls_report.specs.Look.{look_line}
use Rattle.pls_streams.specs.Gathered.{Wrote}
use Rattle.pls_report.proofs.look.write_rows.Given as goal

abbrev pub invariant-loop-row : goal.invariant-loop-row
invariant-loop-row g l =
    Wrote l.fn.gathered l.gathered (g.K.Sink.taken l.fn.sink) (g.K.Sink.taken l.sink) (g.K.Sink.faults l.fn.sink)
    (g.K.Sink.faults l.sink) (g.K.Sink.IsSureOf l.fn.sink) (g.K.Sink.IsSureOf l.sink)
    (text_of (map look_line (take l.row-index l.fn.look.rows)))
