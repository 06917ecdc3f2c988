use Rattle.std.proofs.Common.{◌≡◌, ◌∙◌, true, false, [], ◌∷◌, codes, sym, subst}
use Rattle.pls_lines.specs.laws.LineWords.{first_word}
use Rattle.pls_lines.specs.laws.NumberWords.{behind_word}
use Rattle.pls_rule_text.specs.FormulaText.{IsFieldName}
use Rattle.pls_rules_part.specs.RulesText.{kind_word}
use Rattle.pls_rules_part.specs.laws.LineLaws.{name_is_word}
use Rattle.pls_rules_part.proofs.field_line.field_words.Goals as goal

pub returns-in_err-name-clause-none : goal.returns-in_err-name-clause-none
returns-in_err-name-clause-none c =
    rw c.from_residual-in_err-name.ensures (λ name kind rest fits e.
    c.in_err-name.ensures.none name _ (name_is_word name fits).whole
    (behind_word (codes "field") c.args.text.now c.in_ok-words.words.now _
    c.in_ok-words.ensures.stands
    (e ∙ first_word (codes "field") name (kind_word kind ∷ []) rest)
    ∙ first_word name (kind_word kind) [] rest))

pub returns-then-not-is_field_name-clause-none : goal.returns-then-not-is_field_name-clause-none
returns-then-not-is_field_name-clause-none c = λ name kind rest fits e.
    let same = c.in_ok-name.ensures.first name _ (name_is_word name fits).whole
    (behind_word (codes "field") c.args.text.now c.in_ok-words.words.now _
    c.in_ok-words.ensures.stands
    (e ∙ first_word (codes "field") name (kind_word kind ∷ []) rest)
    ∙ first_word name (kind_word kind) [] rest) in
    let test : false ≡ true = c.if-not-is_field_name.ensures.1 (subst IsFieldName (sym same.0) fits) in
    absurd (cc test)

pub returns-in_err-kind-clause-none : goal.returns-in_err-kind-clause-none
returns-in_err-kind-clause-none c =
    rw c.from_residual-in_err-kind.ensures (λ name kind rest fits e.
    let same = c.in_ok-name.ensures.first name _ (name_is_word name fits).whole
    (behind_word (codes "field") c.args.text.now c.in_ok-words.words.now _
    c.in_ok-words.ensures.stands
    (e ∙ first_word (codes "field") name (kind_word kind ∷ []) rest)
    ∙ first_word name (kind_word kind) [] rest) in
    c.in_err-kind.ensures.none kind rest same.1)
