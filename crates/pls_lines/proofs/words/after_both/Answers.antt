use Rattle.std.proofs.Common.{◌≢◌, ℕ, List, ◌∷◌, ◌++◌, sym, ◌∙◌}
use Rattle.std.proofs.lemmas.List.{append_cancel_left}
use Rattle.pls_lines.proofs.Options.{none_weaker}
use Rattle.pls_lines.proofs.words.after_both.Goals as goal

pub returns-clause-none : goal.returns-clause-none
returns-clause-none c =
    let text = c.args.text.now in
    let front = c.args.front.now in
    let behind = c.in_ok-after_front.field-0.now in
    none_weaker c.after_byte.result ((rest : List ℕ) → behind ≢ c.args.byte ∷ rest)
    ((rest : List ℕ) → text ≢ front ++ c.args.byte ∷ rest)
    (λ none rest e. none rest (append_cancel_left front behind (c.args.byte ∷ rest)
    (sym c.in_ok-after_front.ensures ∙ e)))
    c.after_byte.ensures.none
