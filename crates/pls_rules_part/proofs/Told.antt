-- What a part of lines says as fields and rules.
use Rattle.std.proofs.Common.{◌≡◌, ◌∙◌, ℕ, List, [], ◌∷◌, map, codes, refl, ap, subst}
use Rattle.pls_lines.specs.Frame.{part_lines}
use Rattle.pls_lines.specs.LineKind.{Always, alone}
use Rattle.pls_lines.specs.Lines.{Left, Passes}
use Rattle.pls_lines.specs.ListPart.{PassesList, TellsItems, list_lines}
use Rattle.pls_lines.specs.Text.{text_of}
use Rattle.pls_lines.specs.declared.counted.BareHeading.{BareHeading}
use Rattle.pls_rules_part.specs.RulesScan.{AreRuleLines, HasRules, LineWords, PassesRules, TellsRules, words_line, words_of, written_rules}
use Rattle.pls_rules_part.specs.RulesText.{OfField, OfRule, RuleLine, RulesSaid, rule_line, rule_lines, rules_lines}
use Rattle.pls_rules_part.specs.declared.rules_tally.RulesTally.{RulesTally}
use Rattle.pls_rules_part.specs.declared.rules_tally.RulesWord.{RulesWord}
use Rattle.pls_rules_part.specs.inner.Tally.{rules_tally}

-- lines and their words are written alike
pub words_written : (lines : List RuleLine) → map words_line (map words_of lines) ≡ map rule_line lines
words_written [] = refl
words_written (OfField field ∷ lines) =
    ap (λ (others : List (List ℕ)). rule_line (OfField field) ∷ others) (words_written lines)
words_written (OfRule rule ∷ lines) =
    ap (λ (others : List (List ℕ)). rule_line (OfRule rule) ∷ others) (words_written lines)

pub part_written : (items : List LineWords) (said : RulesSaid)
    → items ≡ map words_of (rule_lines said)
    → list_lines (codes "rules") words_line items ≡ rules_lines said
part_written items said is =
    ap (λ (items : List LineWords). list_lines (codes "rules") words_line items) is
    ∙ ap (part_lines (codes "rules")) (words_written (rule_lines said))

-- what a text says as a list, it says as fields and rules
pub tells_rules : (text : List ℕ) (heading : BareHeading RulesWord) (items : List LineWords)
    → (tells : TellsItems Always (alone (codes "rules")) words_line AreRuleLines text heading items)
    → TellsRules text tells.are.said
tells_rules text heading items tells = record {
  are = tells.are.are;
  is = tells.is ∙ ap text_of (part_written items tells.are.said tells.are.is);
}

module _ (old new : Left) (heading : BareHeading RulesWord) (at : Left) (kept : RulesTally)
    (passed : PassesList Always (alone (codes "rules")) words_line AreRuleLines rules_tally old new
    heading at kept) where
  pub has_rules : HasRules (written_rules at.rest at.number)
  has_rules = record {
    said = passed.tells.are.said;
    tells = tells_rules at.rest heading passed.items passed.tells;
  }

  pub passes_rules : PassesRules old new (written_rules at.rest at.number)
  passes_rules = record {
    said = passed.tells.are.said;
    tells = tells_rules at.rest heading passed.items passed.tells;
    passed = subst (Passes old new)
        (part_written passed.items passed.tells.are.said passed.tells.are.is) passed.passed;
    heading = passed.number;
  }
