use Rattle.std.proofs.Common.{◌*◌, ◌++◌, ◌∙◌, List, ℕ, ap, append-nil, arith, sym}
use Rattle.std.proofs.lemmas.List.{length-take, take_all}
use Rattle.pls_bits.specs.Hex.{hex_digits}
use Rattle.pls_bits.proofs.PaddedText.{one_word_more}
use Rattle.pls_bits.proofs.Text.{length-hex_digits}
use Rattle.pls_bits.proofs.bits.Bits.append_hex_to.Goals as goal

pub loop-k-init : goal.loop-k-init
loop-k-init c = record {
  text = sym (append-nil c.reserve.new.self.items);
  long = omega arith;
  room = omega (arith, c.in_ok-reserve.ensures.ok);
}

pub loop-k-preserved : goal.loop-k-preserved
loop-k-preserved c =
    let digits = c.hex_word-count.ensures.digits in record {
      text = c.in_ok-extend_from_slice.ensures.items
          ∙ one_word_more c.reserve.new.self.items c.loop-k.text.items _
          (hex_digits c.args.self.now) c.loop-k.k c.loop-k.invariant.text digits;
      long = omega (
        arith,
        c.in_ok-extend_from_slice.ensures.len,
        c.loop-k.invariant.long,
        c.hex_word-count.ensures.within,
        length-take c.hex_word-count.result.1 c.hex_word-count.result.0,
      );
      room = omega (arith, c.in_ok-extend_from_slice.ensures.capacity, c.loop-k.invariant.room);
    }

pub returns-clause-appended : goal.returns-clause-appended
returns-clause-appended c =
    let digits = hex_digits c.args.self.now in
    let all =
    take_all (16 * c.loop-k.k) digits
    (omega (
      arith,
      length-hex_digits c.args.self.now,
      c.loop-k-test.false,
      c.len.ensures,
      c.div_ceil-words.ensures,
    )) in
    let text = rw c.in_ok-reserve.ensures.items at c.loop-k.invariant.text in
    text ∙ ap (λ (digits : List ℕ). c.args.text.now.items ++ digits) all
