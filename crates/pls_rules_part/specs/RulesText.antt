-- The text of a rule set: a line for each field, and then one for each rule; and by which of its
-- lines it is refused.
use Rattle.std.specs.Prelude.{ℕ, ◌+◌, ◌≤◌, All, List, [], ◌∷◌, ◌++◌, map, length, codes, Option, Some, None, option_map, if◌then◌else◌}
use Rattle.pls_streams.specs.declared.text_error.TextError.{TextError}
use Rattle.pls_streams.specs.declared.text_error.TextError.TheVariants.{Sense}
use Rattle.pls_streams.specs.declared.refusal_number.TheConstants.{FIELD}
use Rattle.pls_configuration.specs.Configuration.{first_of}
use Rattle.pls_numbers.specs.declared.kind.FieldKind.{FieldKind}
use Rattle.pls_numbers.specs.declared.kind.FieldKind.TheVariants.{Num, Bit}
use Rattle.pls_lines.specs.Text.{line_of, text_of}
use Rattle.pls_lines.specs.ListPart.{list_lines}
use Rattle.pls_rules.specs.Formula.{Formula}
use Rattle.pls_rules.specs.RuleSet.{Rules, rules_of}
use Rattle.pls_rules.specs.declared.field.Field.{Field}
use Rattle.pls_rule_text.specs.FieldNames.{name_at, names_of}
use Rattle.pls_rule_text.specs.FormulaText.{IsFieldName}
use Rattle.pls_rule_text.specs.RuleText.{FitsRule, RuleSaid, Shallow, Deep, formula_with, is_among, place_of_name, rule_refusal, rule_text}

-- what a rules part says: the fields of a label, and the rules from 3 on
pub record RulesSaid : Type 0 where
  pub fields : List Field
  pub rules : List RuleSaid

-- what a line of a rules part says: a field, or a rule
pub data RuleLine : Type 0 where
  OfField : Field → RuleLine
  OfRule : RuleSaid → RuleLine

-- the word of a kind of field
abbrev pub kind_word : FieldKind → List ℕ
kind_word Num = codes "num"
kind_word Bit = codes "bit"

-- `field NAME KIND` or `rule EXPR`
abbrev pub rule_line : RuleLine → List ℕ
rule_line (OfField field) = line_of (codes "field" ∷ field.name ∷ kind_word field.kind ∷ [])
rule_line (OfRule rule) = line_of (codes "rule" ∷ rule_text rule ∷ [])

-- a line that may stand in a rules part
abbrev pub FitsRuleLine : RuleLine → Type 0
FitsRuleLine (OfField field) = IsFieldName field.name
FitsRuleLine (OfRule rule) = FitsRule rule

-- the lines of fields and rules: those of the fields first
abbrev pub rule_lines : RulesSaid → List RuleLine
rule_lines said = map OfField said.fields ++ map OfRule said.rules

-- what may stand in a rules part: 1 to 8 fields, and at most 32 rules
pub record AreRulesSaid (said : RulesSaid) : Type 0 where
  pub some : 1 ≤ length said.fields
  pub fields : length said.fields ≤ 8
  pub rules : length said.rules ≤ 32
  pub each : All FitsRuleLine (rule_lines said)

-- the lines of a rules part
abbrev pub rules_lines : RulesSaid → List (List ℕ)
rules_lines said = list_lines (codes "rules") rule_line (rule_lines said)

-- the text of a rules part
abbrev pub rules_text : RulesSaid → List ℕ
rules_text said = text_of (rules_lines said)

-- for the fields behind some names, the refusal of each whose name was told before it
abbrev pub field_refusals : List (List ℕ) → List Field → List (Option ℕ)
field_refusals names [] = []
field_refusals names (field ∷ fields) =
    (if is_among names field.name then Some FIELD else None)
    ∷ field_refusals (field.name ∷ names) fields

-- the refusal of each line, in their order
abbrev pub line_refusals : RulesSaid → List (Option ℕ)
line_refusals said =
    field_refusals [] said.fields ++ map (rule_refusal (names_of said.fields)) said.rules

-- the refusals of lines, as errors that name the line; the first of the lines has this number
abbrev pub refusals_from : ℕ → List (Option ℕ) → List (Option TextError)
refusals_from line [] = []
refusals_from line (refusal ∷ others) =
    option_map (λ number. Sense number line) refusal ∷ refusals_from (line + 1) others

-- the first refusal of a rules part whose heading stands in the line of this number
abbrev pub rules_refusal : ℕ → RulesSaid → Option TextError
rules_refusal heading said = first_of (refusals_from (heading + 1) (line_refusals said))

-- the formulas of the rules that are no deeper than they may be, in their order
abbrev pub formulas_in : List RuleSaid → List (Formula (List ℕ))
formulas_in [] = []
formulas_in (Shallow formula ∷ rules) = formula ∷ formulas_in rules
formulas_in (Deep text ∷ rules) = formulas_in rules

-- the set that a part says: each field of a rule stands by its number
abbrev pub set_said : RulesSaid → Rules
set_said said =
    rules_of said.fields
    (map (formula_with (place_of_name (names_of said.fields))) (formulas_in said.rules))

-- what is printed of a set: each field of a rule stands by its name
abbrev pub said_of_set : Rules → RulesSaid
said_of_set set = record {
  fields = set.fields;
  rules = map (λ rule. Shallow (formula_with (name_at (names_of set.fields)) rule)) set.rules;
}
