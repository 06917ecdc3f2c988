use Rattle.std.proofs.Common.{ℕ, List, [], ◌∷◌, ◌++◌, decimal, ◌∙◌, ap, arith}
use Rattle.pls_lines.specs.laws.LineWords.{first_word}
use Rattle.pls_lines.specs.laws.NumberWords.{behind_word, behind_number}
use Rattle.pls_lines.proofs.number_lines.two_numbers.Goals as goal

pub returns-in_err-first-clause-none : goal.returns-in_err-first-clause-none
returns-in_err-first-clause-none c =
    rw c.from_residual-in_err-first.ensures
    (λ a b rest within_a within_b e. c.in_err-first.ensures.none a _ within_a
    (behind_word c.args.word.now c.args.text.now _ _ c.in_ok-words.ensures.stands
    (e ∙ first_word c.args.word.now (decimal a) (decimal b ∷ []) rest
    ∙ ap (λ (words : List ℕ). c.args.word.now ++ 32 ∷ words)
    (first_word (decimal a) (decimal b) [] rest))))

pub returns-in_err-second-clause-none : goal.returns-in_err-second-clause-none
returns-in_err-second-clause-none c =
    rw c.from_residual-in_err-second.ensures
    (λ a b rest within_a within_b e.
    let words =
    behind_word c.args.word.now c.args.text.now _ _ c.in_ok-words.ensures.stands
    (e ∙ first_word c.args.word.now (decimal a) (decimal b ∷ []) rest
    ∙ ap (λ (words : List ℕ). c.args.word.now ++ 32 ∷ words)
    (first_word (decimal a) (decimal b) [] rest)) in
    let last = behind_number c.in_ok-first.first a c.in_ok-words.words.now _ _
    (omega (arith, c.in_ok-first.ensures.within, c.ranges.most.fits))
    (omega (arith, within_a, c.ranges.most.fits)) c.in_ok-first.ensures.stands words in
    c.in_err-second.ensures.none b rest within_b last)
