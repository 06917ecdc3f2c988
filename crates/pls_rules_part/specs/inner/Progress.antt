-- How far a rule set has come, of which the lines are added one after another.
use Rattle.std.specs.Prelude.{◌≡◌, ℕ, List, ◌++◌, map, All, Option}
use Rattle.pls_streams.specs.declared.text_error.TextError.{TextError}
use Rattle.pls_lines.specs.Lines.{Left}
use Rattle.pls_lines.specs.ListPart.{Remains}
use Rattle.pls_configuration.specs.Configuration.{first_of}
use Rattle.pls_rules.specs.Formula.{Formula}
use Rattle.pls_rules.specs.HeldTrees.{formula_of}
use Rattle.pls_rules.specs.declared.field.Field.{Field}
use Rattle.pls_rules.specs.declared.rule_set.RuleSet.{RuleSet}
use Rattle.pls_rule_text.specs.FieldNames.{names_of}
use Rattle.pls_rule_text.specs.RuleText.{RuleSaid, formula_with, is_among, place_of_name, rule_refusal}
use Rattle.pls_rules_part.specs.RulesScan.{FitsWords, words_line, words_of}
use Rattle.pls_rules_part.specs.RulesText.{FitsRuleLine, OfField, OfRule, RuleLine, RulesSaid, field_refusals, formulas_in, refusals_from}

-- the lines of fields and rules
abbrev pub lines_of : List Field → List RuleSaid → List RuleLine
lines_of fields rules = map OfField fields ++ map OfRule rules

-- the trees of rules over the fields with these names
abbrev pub trees_of : List (List ℕ) → List RuleSaid → List (Formula ℕ)
trees_of names rules = map (formula_with (place_of_name names)) (formulas_in rules)

-- the set says the first lines of a part, none of which is refused; the others stand next
pub record Progress (said : RulesSaid) (refusal : Option TextError) (lines : Left)
    (set : RuleSet) : Type 0 where
  pub fields : List Field
  pub rules : List RuleSaid
  pub seen : List (List ℕ)
  pub seen_are : (name : List ℕ) → is_among seen name ≡ is_among (names_of set.fields.items) name
  pub fields_are : said.fields ≡ set.fields.items ++ fields
  pub trees : map formula_of set.rules.items ++ trees_of (names_of said.fields) rules
      ≡ trees_of (names_of said.fields) said.rules
  pub fits : All FitsRuleLine (lines_of fields rules)
  pub remains : Remains FitsWords words_line lines.rest (map words_of (lines_of fields rules))
  pub later : refusal ≡ first_of (refusals_from lines.number
      (field_refusals seen fields ++ map (rule_refusal (names_of said.fields)) rules))
