use Rattle.std.proofs.Common.{◌*◌, take}
use Rattle.pls_streams.specs.Gathered.{Wrote}
use Rattle.pls_bits.specs.Hex.{hex_digits}
use Rattle.pls_labelfile.proofs.labels_write.put_digits.Given as goal

abbrev pub invariant-loop-k : goal.invariant-loop-k
invariant-loop-k g l =
    Wrote l.fn.gathered l.gathered (g.K.Sink.taken l.fn.sink) (g.K.Sink.taken l.sink)
    (g.K.Sink.faults l.fn.sink) (g.K.Sink.faults l.sink) (g.K.Sink.IsSureOf l.fn.sink)
    (g.K.Sink.IsSureOf l.sink) (take (16 * l.k) (hex_digits l.bits))
