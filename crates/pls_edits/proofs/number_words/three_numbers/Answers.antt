use Rattle.std.proofs.Common.{◌∙◌, arith}
use Rattle.pls_lines.specs.laws.NumberWords.{behind_number, behind_word}
use Rattle.pls_edits.proofs.LineTexts.{three_text}
use Rattle.pls_edits.proofs.number_words.three_numbers.Goals as goal

pub returns-in_err-first-clause-none : goal.returns-in_err-first-clause-none
returns-in_err-first-clause-none c =
    rw c.from_residual-in_err-first.ensures
    (λ a b d rest fits e. c.in_err-first.ensures.none a _ fits.first
    (behind_word c.args.word.now c.args.text.now _ _ c.in_ok-words.ensures.stands
    (e ∙ three_text c.args.word.now a b d rest)))

pub returns-in_err-second-clause-none : goal.returns-in_err-second-clause-none
returns-in_err-second-clause-none c =
    rw c.from_residual-in_err-second.ensures
    (λ a b d rest fits e.
    let words =
    behind_word c.args.word.now c.args.text.now _ _ c.in_ok-words.ensures.stands
    (e ∙ three_text c.args.word.now a b d rest) in
    let more = behind_number c.in_ok-first.first a c.in_ok-words.words.now _ _
    (omega (arith, c.in_ok-first.ensures.within)) (omega (arith, fits.first))
    c.in_ok-first.ensures.stands words in
    c.in_err-second.ensures.none b _ fits.second more)

pub returns-in_err-third-clause-none : goal.returns-in_err-third-clause-none
returns-in_err-third-clause-none c =
    rw c.from_residual-in_err-third.ensures
    (λ a b d rest fits e.
    let words =
    behind_word c.args.word.now c.args.text.now _ _ c.in_ok-words.ensures.stands
    (e ∙ three_text c.args.word.now a b d rest) in
    let more = behind_number c.in_ok-first.first a c.in_ok-words.words.now _ _
    (omega (arith, c.in_ok-first.ensures.within)) (omega (arith, fits.first))
    c.in_ok-first.ensures.stands words in
    let last = behind_number c.in_ok-second.second b _ _ _
    (omega (arith, c.in_ok-second.ensures.within)) (omega (arith, fits.second))
    c.in_ok-second.ensures.stands more in
    c.in_err-third.ensures.none d rest fits.third last)
