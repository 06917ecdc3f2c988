use Rattle.std.proofs.Common.{◌*◌, ◌-◌, ◌∙◌, arith, drop, length, take}
use Rattle.std.proofs.lemmas.List.{length-drop, take_rest}
use Rattle.pls_bits.proofs.HexWords.{lower_from, lower_front, lower_padded, padded_word}
use Rattle.pls_bits.proofs.hex_words.word_at.Goals as goal

pub word_of-requires-clause-lower : goal.word_of-requires-clause-lower
word_of-requires-clause-lower c =
    let digits = c.args.digits.now in
    lower_front (take (length digits - 16 * c.args.k) (drop (16 * c.args.k) digits)) 16
    (lower_from digits (16 * c.args.k) c.requires.lower)

pub word_of-requires-2-clause-lower : goal.word_of-requires-2-clause-lower
word_of-requires-2-clause-lower c =
    let digits = c.args.digits.now in
    let rest = take (length digits - 16 * c.args.k) (drop (16 * c.args.k) digits) in
    rw c.copy_from_slice.ensures.after
    (lower_padded rest (length rest) (lower_from digits (16 * c.args.k) c.requires.lower))

pub returns : goal.returns
returns c =
    let digits = c.args.digits.now in
    let rest = take_rest digits (16 * c.args.k) in
    let few = rw rest at c.if-rest-ge16.false in
    let text = rw (c.copy_from_slice.ensures.after, rest) at c.word_of-2.ensures in
    text ∙ padded_word digits c.args.k c.requires.within
    (omega (arith, few, length-drop (16 * c.args.k) digits))
