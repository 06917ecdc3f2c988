use Rattle.std.proofs.Common.{codes, length, sym, ◌∙◌, ap, arith}
use Rattle.pls_lines.specs.laws.NumberWords.{behind_word, behind_number, same_number}
use Rattle.pls_labelfile.specs.LabelsText.{hex_word}
use Rattle.pls_labelfile.specs.inner.HexWord.{word_length}
use Rattle.pls_labelfile.specs.laws.LabelLaws.{words_behind, word_long}
use Rattle.pls_labelfile.proofs.label_line.label_words.Goals as goal

pub returns-in_err-len-clause-none : goal.returns-in_err-len-clause-none
returns-in_err-len-clause-none c =
    rw c.from_residual-in_err-len.ensures
    (λ label rest fits e.
    let behind =
    behind_word (codes "label") c.args.text.now c.in_ok-words.words.now _
    c.in_ok-words.ensures.stands
    (e ∙ words_behind label.id (length label.bits) (hex_word label.bits) rest) in
    let numbers = behind_number c.in_ok-id.id label.id c.in_ok-words.words.now _ _
    (omega (arith, c.in_ok-id.ensures.within)) (omega (arith, fits.id))
    c.in_ok-id.ensures.stands behind in
    c.in_err-len.ensures.none (length label.bits) _ fits.short numbers)

pub returns-in_err-hex-clause-none : goal.returns-in_err-hex-clause-none
returns-in_err-hex-clause-none c =
    rw c.from_residual-in_err-hex.ensures
    (λ label rest fits e.
    let behind =
    behind_word (codes "label") c.args.text.now c.in_ok-words.words.now _
    c.in_ok-words.ensures.stands
    (e ∙ words_behind label.id (length label.bits) (hex_word label.bits) rest) in
    let numbers = behind_number c.in_ok-id.id label.id c.in_ok-words.words.now _ _
    (omega (arith, c.in_ok-id.ensures.within)) (omega (arith, fits.id))
    c.in_ok-id.ensures.stands behind in
    let len = same_number c.in_ok-len.len (length label.bits) _ _
    (omega (arith, c.in_ok-len.ensures.within)) (omega (arith, fits.short))
    (sym c.in_ok-len.ensures.stands ∙ numbers) in
    c.in_err-hex.ensures.none (hex_word label.bits) rest
    (word_long label.bits ∙ ap word_length (sym len.0) ∙ sym c.word_length_of.ensures) len.1)
