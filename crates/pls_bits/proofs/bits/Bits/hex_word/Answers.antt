use Rattle.std.proofs.Common.{◌≡◌, ◌*◌, ◌∙◌, arith, drop, refl}
use Rattle.std.proofs.lemmas.List.{take_rest}
use Rattle.pls_bits.proofs.PaddedText.{word_digits_at}
use Rattle.pls_bits.proofs.bits.Bits.hex_word.Goals as goal

pub returns-clause-digits : goal.returns-clause-digits
returns-clause-digits c =
    let bits = c.args.self.now in
    let k = c.args.k in
    let rest : c.cut-rest.result ≡ drop (64 * k) bits =
    c.cut-rest.ensures ∙ rw c.len-len.ensures (take_rest bits (64 * k)) in
    rw c.word_digits.ensures
    (word_digits_at bits k c.peek.result (2 * c.byte_count_of-count.result)
    (omega (arith, c.requires)) (rw (← rest, ← c.cursor.ensures) c.peek.ensures)
    (rw (c.byte_count_of-count.ensures, ← rest, c.min.ensures, c.len.ensures) refl))
