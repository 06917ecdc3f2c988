use Rattle.std.proofs.Common.{◌≡◌, length, map}
use Rattle.pls_centroid.specs.inner.Rounds.{AreRoundsFrom, AreTaken}
use Rattle.pls_centroid.proofs.all_levels.all_rounds.Given as goal

-- as many rounds as were gone through, and the flags behind them
abbrev pub invariant-loop : goal.invariant-loop
invariant-loop l = record {
  each : length l.taken.items ≡ length l.parents;
  many : length l.rounds.items ≡ l.counter;
  flags : AreTaken l.net l.counter l.taken.items;
  rounds : AreRoundsFrom l.net 0 (map (λ round. round.items) l.rounds.items);
}
