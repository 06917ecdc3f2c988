-- The sink has taken what was sent.
use Rattle.std.proofs.Common.{◌-◌, ◌≤◌, ℕ, length, take}
use Rattle.std.specs.Io.KnownBytes.{Appends}
use Rattle.pls_streams.specs.Streams.{StaysSure}
use Rattle.pls_streams.proofs.writing.write_all.Given as goal

abbrev pub invariant-loop-sent : goal.invariant-loop-sent
invariant-loop-sent g l = record {
  within : l.sent ≤ length l.bytes;
  taken : Appends (g.K.Sink.taken l.fn.sink) (g.K.Sink.taken l.sink) (take l.sent l.bytes);
  sure : (most : ℕ) → g.K.Sink.IsSureOf l.fn.sink most → length l.bytes ≤ most
      → StaysSure (g.K.Sink.IsSureOf l.sink) (most - l.sent) (g.K.Sink.faults l.fn.sink)
      (g.K.Sink.faults l.sink);
  later : g.K.Sink.faults l.fn.sink ≤ g.K.Sink.faults l.sink;
}

abbrev pub decreases-loop-sent : goal.decreases-loop-sent
decreases-loop-sent g l = length l.bytes - l.sent
