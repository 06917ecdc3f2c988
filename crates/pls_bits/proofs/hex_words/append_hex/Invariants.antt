use Rattle.std.proofs.Common.{◌≡◌, ◌≤◌, ◌+◌, ◌*◌, ◌++◌, length, replicate, take}
use Rattle.std.specs.Vec.{vec_capacity}
use Rattle.pls_bits.specs.Hex.{hex_digits}
use Rattle.pls_bits.specs.Words.{bits_of}
use Rattle.pls_bits.proofs.hex_words.append_hex.Given as goal

abbrev pub invariant-loop-k : goal.invariant-loop-k
invariant-loop-k l = record {
  text : hex_digits (bits_of l.words.items (64 * length l.initial.words.items) (64 * l.k))
      ≡ take (16 * l.k) (l.digits ++ replicate 16 48);
  kept : take (length l.initial.words.items) l.words.items ≡ l.initial.words.items;
  long : length l.words.items ≡ length l.initial.words.items + l.k;
  room : length l.initial.words.items + l.more ≤ vec_capacity l.words;
  grows : vec_capacity l.initial.words ≤ vec_capacity l.words;
}
