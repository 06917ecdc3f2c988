use Rattle.std.proofs.Common.{◌≡◌, ℕ, Vec, Global, length}
use Rattle.pls_splice.specs.inner.Finding.{AreKeys}
use Rattle.pls_splice.specs.inner.Keys.{edge_key}
use Rattle.pls_splice.proofs.finding.edge_keys.Given as goal

abbrev pub invariant-loop-i : goal.invariant-loop-i
invariant-loop-i l = (length l.keys.items ≡ l.i)
    × AreKeys (λ (words : Vec ℕ Global). words.items) l.keys.items (edge_key l.net l.labels l.ring)
