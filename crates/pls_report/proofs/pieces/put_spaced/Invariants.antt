use Rattle.std.proofs.Common.{take}
use Rattle.pls_streams.specs.Gathered.{Wrote}
use Rattle.pls_report.specs.inner.Pieces.{spaced}
use Rattle.pls_report.proofs.pieces.put_spaced.Given as goal

abbrev pub invariant-loop-number : goal.invariant-loop-number
invariant-loop-number g l =
    Wrote l.fn.gathered l.gathered (g.K.Sink.taken l.fn.sink) (g.K.Sink.taken l.sink) (g.K.Sink.faults l.fn.sink)
    (g.K.Sink.faults l.sink) (g.K.Sink.IsSureOf l.fn.sink) (g.K.Sink.IsSureOf l.sink)
    (spaced (take l.number-index l.numbers))
