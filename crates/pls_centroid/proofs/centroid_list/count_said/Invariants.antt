use Rattle.std.proofs.Common.{◌≡◌, ◌+◌, length, drop, map}
use Rattle.pls_centroid.specs.inner.Rounds.{entries_at, said_on}
use Rattle.pls_centroid.proofs.centroid_list.count_said.Given as goal

-- the levels so far, and those of the rounds behind
abbrev pub invariant-loop-number : goal.invariant-loop-number
invariant-loop-number l =
    length (said_on (entries_at (map (λ round. round.items) l.rounds) l.place))
    ≡ l.number
    + length (said_on (drop l.number (entries_at (map (λ round. round.items) l.rounds) l.place)))
