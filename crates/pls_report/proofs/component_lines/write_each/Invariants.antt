use Rattle.std.proofs.Common.{map, take}
use Rattle.pls_lines.specs.Text.{text_of}
use Rattle.pls_report.specs.ComponentLines.{component_line}
use Rattle.pls_streams.specs.Gathered.{Wrote}
use Rattle.pls_report.proofs.component_lines.write_each.Given as goal

abbrev pub invariant-loop-part : goal.invariant-loop-part
invariant-loop-part g l =
    Wrote l.fn.gathered l.gathered (g.K.Sink.taken l.fn.sink) (g.K.Sink.taken l.sink) (g.K.Sink.faults l.fn.sink)
    (g.K.Sink.faults l.sink) (g.K.Sink.IsSureOf l.fn.sink) (g.K.Sink.IsSureOf l.sink)
    (text_of (map (component_line l.simulated) (take l.part-index l.parts)))
