use Rattle.std.proofs.Common.{◌≡◌, length}
use Rattle.pls_streams.specs.Steps.{up_by}
use Rattle.pls_recheck.specs.inner.Flags.{AreCurrent, cleared, set_among}
use Rattle.pls_recheck.proofs.rounds.judge_flagged.Given as goal

abbrev pub invariant-loop-i : goal.invariant-loop-i
invariant-loop-i g l = record {
  flags : l.flags.items ≡ cleared l.i l.fn.flags.items;
  many : length l.kept.items ≡ length l.net;
  current : AreCurrent (g.A.Asks.judge l.asks l.fn.counter) l.net l.labels l.flags.items l.kept.items;
  judge : g.A.Asks.judge l.asks l.counter ≡ g.A.Asks.judge l.asks l.fn.counter;
  over : g.A.Asks.over l.asks l.counter ≡ g.A.Asks.over l.asks l.fn.counter;
  checked : l.checked ≡ set_among l.i l.fn.flags.items;
  spent : g.A.Asks.spent l.asks l.counter ≡ up_by l.checked (g.A.Asks.spent l.asks l.fn.counter);
  steps : l.steps ≡ up_by l.checked l.fn.steps;
}
