use Rattle.std.proofs.Common.{◌≡◌, nat_lt, Bool, true, false, List, ap, refl, arith}
use Rattle.std.specs.Bool.{OnFalse, OnTrue}
use Rattle.std.proofs.lemmas.Bool.{ltb-false, ltb-true}
use Rattle.pls_lines.specs.ListPart.{Begun}
use Rattle.pls_rules_part.specs.RulesScan.{AreRuleLines, LineWords}
use Rattle.pls_rules_part.specs.declared.rules_tally.RulesTally.{RulesTally}
use Rattle.pls_rules_part.specs.inner.Tally.{rules_tally}
use Rattle.pls_rules_part.proofs.BegunLines.{whole_needs, whole_with}
use Rattle.pls_rules_part.proofs.rules_tally.RulesTallyListTally.is_whole.Goals as goal

pub returns-clause-whole : goal.returns-clause-whole
returns-clause-whole c = by (nat_lt 0 c.args.self.now.fields) refl
  where
    by : (b : Bool) → nat_lt 0 c.args.self.now.fields ≡ b
        → OnTrue b ((lines : List LineWords) → Begun AreRuleLines lines
        → c.args.self.now ≡ rules_tally lines → AreRuleLines lines)
    by true is = λ lines begun counted. whole_with lines begun
        (omega (
          arith,
          ltb-true 0 c.args.self.now.fields is,
          ap (λ (tally : RulesTally). tally.fields) counted,
        ))
    by false is = tt

pub returns-clause-other : goal.returns-clause-other
returns-clause-other c = by (nat_lt 0 c.args.self.now.fields) refl
  where
    by : (b : Bool) → nat_lt 0 c.args.self.now.fields ≡ b
        → OnFalse b ((lines : List LineWords) → Begun AreRuleLines lines
        → c.args.self.now ≡ rules_tally lines → AreRuleLines lines → ⊥)
    by true is = tt
    by false is = λ lines begun counted are.
        omega (
          arith,
          ltb-false 0 c.args.self.now.fields is,
          ap (λ (tally : RulesTally). tally.fields) counted,
          whole_needs lines are,
        )
