use Rattle.std.proofs.Common.{◌≡◌, ◌++◌, drop}
use Rattle.pls_splice.specs.inner.Keys.{full_words, last_word}
use Rattle.pls_splice.proofs.edge_key.push_bits.Given as goal

abbrev pub invariant-loop-i : goal.invariant-loop-i
invariant-loop-i l = (last_word l.last (drop l.i l.bits) ≡ last_word l.word l.bits)
    × (l.key.items ++ full_words l.last (drop l.i l.bits)
    ≡ l.initial.key.items ++ full_words l.word l.bits)
