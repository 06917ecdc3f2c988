use Rattle.std.proofs.Common.{◌≡◌, ◌∙◌, true, false, [], codes, sym, subst}
use Rattle.pls_lines.specs.laws.LineWords.{first_word}
use Rattle.pls_lines.specs.laws.NumberWords.{behind_word}
use Rattle.pls_rule_text.specs.RuleText.{IsRuleText}
use Rattle.pls_rules_part.specs.laws.LineLaws.{rule_is_word}
use Rattle.pls_rules_part.proofs.rule_words.rule_words.Goals as goal

pub returns-in_err-rule-clause-none : goal.returns-in_err-rule-clause-none
returns-in_err-rule-clause-none c =
    rw c.from_residual-in_err-rule.ensures (λ rule rest fits e.
    c.in_err-rule.ensures.none rule rest (rule_is_word rule fits).plain
    (behind_word (codes "rule") c.args.text.now c.in_ok-line.line.now _
    c.in_ok-line.ensures.stands (e ∙ first_word (codes "rule") rule [] rest)))

pub returns-else-is_rule_text-clause-none : goal.returns-else-is_rule_text-clause-none
returns-else-is_rule_text-clause-none c = λ rule rest fits e.
    let same = c.in_ok-rule.ensures.first rule rest (rule_is_word rule fits).plain
    (behind_word (codes "rule") c.args.text.now c.in_ok-line.line.now _
    c.in_ok-line.ensures.stands (e ∙ first_word (codes "rule") rule [] rest)) in
    let test : false ≡ true = c.if-is_rule_text.ensures.1 (subst IsRuleText (sym same.0) fits) in
    absurd (cc test)
