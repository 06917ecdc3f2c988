use Rattle.std.proofs.Common.{[], ◌∷◌, decimal, ◌∙◌}
use Rattle.pls_lines.specs.laws.LineWords.{first_word}
use Rattle.pls_lines.specs.laws.NumberWords.{behind_word}
use Rattle.pls_netfile.specs.NetworkText.{up_word}
use Rattle.pls_edits.proofs.number_words.state_after.Goals as goal

pub returns-in_err-id-clause-none : goal.returns-in_err-id-clause-none
returns-in_err-id-clause-none c =
    rw c.from_residual-in_err-id.ensures
    (λ id state rest fits e. c.in_err-id.ensures.none id state rest fits
    (behind_word c.args.word.now c.args.text.now _ _ c.in_ok-words.ensures.stands
    (e ∙ first_word c.args.word.now (decimal id)
    (up_word state.up ∷ decimal state.mark ∷ decimal state.num ∷ []) rest)))
