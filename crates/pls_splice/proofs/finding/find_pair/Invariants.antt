use Rattle.std.proofs.Common.{◌≡◌, ◌-◌, ◌+◌, ◌<◌, ℕ, Vec, Global, length}
use Rattle.pls_splice.specs.inner.Finding.{AreKeys, HasFirst, IsFoundFrom}
use Rattle.pls_splice.specs.inner.Keys.{edge_key}
use Rattle.pls_splice.proofs.finding.find_pair.Given as goal

abbrev pub invariant-loop-turn : goal.invariant-loop-turn
invariant-loop-turn l =
    HasFirst (λ (words : Vec ℕ Global). words.items) l.later (edge_key l.net l.labels l.ring)
    (l.tails - l.turn + 3) (l.count - (l.tails - l.turn + 3))
    × IsFoundFrom l.net l.labels l.ring (l.tails - l.turn) l.found
    × (l.turn < l.tails → length l.keys.items ≡ l.tails - l.turn + 3)
    × AreKeys (λ (words : Vec ℕ Global). words.items) l.keys.items (edge_key l.net l.labels l.ring)
