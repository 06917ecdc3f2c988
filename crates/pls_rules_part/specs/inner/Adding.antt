-- How the lines of a rules part make a rule set, one after another.
use Rattle.std.specs.Prelude.{◌≡◌, ℕ, List, [], ◌∷◌, ◌++◌, map, Option, Some, None, option_map, if◌then◌else◌}
use Rattle.pls_streams.specs.declared.refusal_number.TheConstants.{FIELD}
use Rattle.pls_streams.specs.declared.text_error.TextError.{TextError}
use Rattle.pls_streams.specs.declared.text_error.TextError.TheVariants.{Sense}
use Rattle.pls_lines.specs.ListPart.{Remains}
use Rattle.pls_configuration.specs.Configuration.{first_of}
use Rattle.pls_rules.specs.Formula.{Formula}
use Rattle.pls_rules.specs.HeldTrees.{formula_of}
use Rattle.pls_rules.specs.declared.field.Field.{Field}
use Rattle.pls_rules.specs.declared.rule_set.RuleSet.{RuleSet}
use Rattle.pls_rule_text.specs.FieldNames.{names_of}
use Rattle.pls_rule_text.specs.Refused.{IsTreeOf}
use Rattle.pls_rule_text.specs.RuleText.{RuleSaid, is_among, rule_refusal}
use Rattle.pls_rules_part.specs.RulesScan.{FitsWords, words_line, words_of}
use Rattle.pls_rules_part.specs.RulesText.{AreRulesSaid, OfField, OfRule, RuleLine, RulesSaid, line_refusals, refusals_from, rule_lines}

-- the number by which a line is refused behind fields with these names
abbrev pub line_refusal : List (List ℕ) → RuleLine → Option ℕ
line_refusal names (OfField field) = if is_among names field.name then Some FIELD else None
line_refusal names (OfRule rule) = rule_refusal names rule

-- a refusal by this number, which names the line
abbrev pub at_line : ℕ → Option ℕ → Option TextError
at_line line refusal = option_map (λ number. Sense number line) refusal

-- the set has one field more
pub record AddsField (old new : RuleSet) (field : Field) : Type 0 where
  pub fields : new.fields.items ≡ old.fields.items ++ field ∷ []
  pub rules : new.rules.items ≡ old.rules.items

-- the set has one rule more
pub record AddsRule (old new : RuleSet) (rule : RuleSaid) : Type 0 where
  pub tree : Formula ℕ
  pub is : IsTreeOf (names_of old.fields.items) rule tree
  pub fields : new.fields.items ≡ old.fields.items
  pub rules : map formula_of new.rules.items ≡ map formula_of old.rules.items ++ tree ∷ []

-- the set has what the line says
abbrev pub AddsLine : RuleSet → RuleSet → RuleLine → Type 0
AddsLine old new (OfField field) = AddsField old new field
AddsLine old new (OfRule rule) = AddsRule old new rule

-- the text is what stands behind the heading of a part that says this
pub record StandsBehind (said : RulesSaid) (text : List ℕ) : Type 0 where
  pub are : AreRulesSaid said
  pub remains : Remains FitsWords words_line text (map words_of (rule_lines said))

-- by which line a part is refused whose first line is this one
abbrev pub refusal_from : ℕ → RulesSaid → Option TextError
refusal_from line said = first_of (refusals_from line (line_refusals said))
