use Rattle.std.proofs.Common.{◌≡◌, ℕ, ◌+◌, [], ◌++◌, length, replicate, take}
use Rattle.pls_watch.proofs.stock.stock_of.Given as goal

abbrev pub invariant-loop-i : goal.invariant-loop-i
invariant-loop-i l = (count : ℕ) × (count + l.i ≡ length l.labels + l.more)
    × (length l.room.labels ≡ length l.labels + l.more)
    × (l.room.labels ≡ take l.i l.labels ++ replicate count [])
