use Rattle.std.proofs.Common.{◌≡◌, ◌∙◌, ◌+◌, ℕ, List, ap, subst, sym}
use Rattle.pls_lines.specs.Lines.{Left}
use Rattle.pls_rules_part.specs.RulesScan.{HasRules, TellsRules, WrittenRules}
use Rattle.pls_rules_part.proofs.Behind.{Behind, behind}
use Rattle.pls_rules_part.specs.RulesText.{RulesSaid}
use Rattle.pls_rules_part.proofs.rules_text.RulesText.behind_heading.Goals as goal

-- the reader starts at the heading of the text
at_start : (c : goal.After-pass) → c.again-lines.result.rest ≡ c.args.self.now.text
at_start c =
    ap (λ (left : Left). left.rest) c.again-lines.ensures
    ∙ ap (λ (written : WrittenRules). written.text) c.self.view_is

number_at_start : (c : goal.After-pass) → c.again-lines.result.number ≡ c.args.self.now.number
number_at_start c =
    ap (λ (left : Left). left.number) c.again-lines.ensures
    ∙ ap (λ (written : WrittenRules). written.number) c.self.view_is

here : (c : goal.After-pass) → (said : RulesSaid) → TellsRules c.args.self.now.text said
    → Behind said c.again-lines.result c.pass.new.self
here c said tells =
    behind c.pass.result c.again-lines.result c.pass.new.self said
    (subst (λ (text : List ℕ). TellsRules text said) (sym (at_start c)) tells)
    c.pass.ensures.passed c.pass.ensures.other

pub returns-clause-some : goal.returns-clause-some
returns-clause-some c =
    let told = subst HasRules c.self.view_is c.self.invariant in
    (told.said, (here c told.said told.tells).stands)

pub returns-clause-number : goal.returns-clause-number
returns-clause-number c = λ said tells.
    (here c said tells).number ∙ ap (λ (n : ℕ). n + 1) (number_at_start c)

pub returns-clause-stands : goal.returns-clause-stands
returns-clause-stands c = λ said tells. (here c said tells).stands
