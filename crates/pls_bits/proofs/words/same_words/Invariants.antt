use Rattle.std.proofs.Common.{◌≡◌, ◌*◌}
use Rattle.pls_bits.specs.Words.{bits_of}
use Rattle.pls_bits.proofs.words.same_words.Given as goal

abbrev pub invariant-loop-k : goal.invariant-loop-k
invariant-loop-k l =
    bits_of l.one (64 * l.place) (64 * l.k) ≡ bits_of l.other (64 * l.at) (64 * l.k)
