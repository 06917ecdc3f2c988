use Rattle.std.proofs.Common.{◌≡◌, ◌+◌, ◌*◌, ◌≤◌, ◌++◌, length, take}
use Rattle.std.specs.Vec.{vec_capacity}
use Rattle.pls_bits.specs.Hex.{hex_digits}
use Rattle.pls_bits.proofs.bits.Bits.append_hex_to.Given as goal

abbrev pub invariant-loop-k : goal.invariant-loop-k
invariant-loop-k l = record {
  text : l.text.items ≡ l.initial.text.items ++ take (16 * l.k) (hex_digits l.self);
  long : length l.text.items ≤ length l.initial.text.items + 16 * l.k;
  room : length l.initial.text.items + 16 * l.words ≤ vec_capacity l.text;
}
