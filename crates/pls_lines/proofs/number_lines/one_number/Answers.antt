use Rattle.std.proofs.Common.{[], decimal, ◌∙◌}
use Rattle.pls_lines.specs.laws.LineWords.{first_word}
use Rattle.pls_lines.specs.laws.NumberWords.{behind_word}
use Rattle.pls_lines.proofs.number_lines.one_number.Goals as goal

pub returns-in_err-number-clause-none : goal.returns-in_err-number-clause-none
returns-in_err-number-clause-none c =
    rw c.from_residual-in_err-number.ensures
    (λ number rest within e. c.in_err-number.ensures.none number rest within
    (behind_word c.args.word.now c.args.text.now _ _ c.in_ok-words.ensures.stands
    (e ∙ first_word c.args.word.now (decimal number) [] rest)))
