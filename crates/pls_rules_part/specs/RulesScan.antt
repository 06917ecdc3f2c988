-- How the part of a rule set stands among the lines of an input.
use Rattle.std.specs.Prelude.{◌≡◌, ℕ, List, [], ◌∷◌, map, codes}
use Rattle.pls_lines.specs.LineKind.{Always, Says, alone}
use Rattle.pls_lines.specs.Lines.{Left, Passes}
use Rattle.pls_lines.specs.ListPart.{IsListPart}
use Rattle.pls_lines.specs.declared.counted.BareHeading.{BareHeading}
use Rattle.pls_lines.specs.Worded.{worded}
use Rattle.pls_rules.specs.declared.field.Field.{Field}
use Rattle.pls_rule_text.specs.FormulaText.{IsFieldName}
use Rattle.pls_rule_text.specs.RuleText.{IsRuleText, rule_text}
use Rattle.pls_rules_part.specs.RulesText.{AreRulesSaid, OfField, OfRule, RuleLine, RulesSaid, kind_word, rule_lines, rules_lines, rules_text}
use Rattle.pls_rules_part.specs.declared.rules_tally.RulesWord.{RulesWord}

-- a line as its words: a field, or the text of a rule
pub data LineWords : Type 0 where
  FieldWords : Field → LineWords
  RuleBytes : List ℕ → LineWords

-- the words of what a line says
abbrev pub words_of : RuleLine → LineWords
words_of (OfField field) = FieldWords field
words_of (OfRule rule) = RuleBytes (rule_text rule)

-- the first word of a line
abbrev pub first_word : LineWords → List ℕ
first_word (FieldWords field) = codes "field"
first_word (RuleBytes text) = codes "rule"

-- the words behind the first word of a line
abbrev pub words_behind : LineWords → List (List ℕ)
words_behind (FieldWords field) = field.name ∷ kind_word field.kind ∷ []
words_behind (RuleBytes text) = text ∷ []

-- `field NAME KIND` or `rule EXPR`
abbrev pub words_line : LineWords → List ℕ
words_line words = worded first_word words_behind words

-- the words say what a line may say
abbrev pub FitsWords : LineWords → Type 0
FitsWords (FieldWords field) = IsFieldName field.name
FitsWords (RuleBytes text) = IsRuleText text

-- the lines are all those of a rules part, without its heading and `end`
pub record AreRuleLines (lines : List LineWords) : Type 0 where
  pub said : RulesSaid
  pub are : AreRulesSaid said
  pub is : lines ≡ map words_of (rule_lines said)

-- the line is the heading, which is one word and says nothing more
abbrev pub IsRulesHeading : List ℕ → Type 0
IsRulesHeading line = Says {X = BareHeading RulesWord} Always (alone (codes "rules")) line

-- the lines are those of a rules part
abbrev pub IsRulesPart : List (List ℕ) → Type 0
IsRulesPart lines = IsListPart IsRulesHeading words_line AreRuleLines lines

-- this is what the text says
pub record TellsRules (text : List ℕ) (said : RulesSaid) : Type 0 where
  pub are : AreRulesSaid said
  pub is : text ≡ rules_text said

-- the text of a rules part, and the number of its heading line
pub record WrittenRules : Type 0 where
  pub text : List ℕ
  pub number : ℕ

-- a text with its heading in this line
abbrev pub written_rules : List ℕ → ℕ → WrittenRules
written_rules text number = record { text = text; number = number }

-- the text says fields and rules
pub record HasRules (written : WrittenRules) : Type 0 where
  pub said : RulesSaid
  pub tells : TellsRules written.text said

-- the reader has passed a rules part, and kept its text and its place
pub record PassesRules (old new : Left) (written : WrittenRules) : Type 0 where
  pub said : RulesSaid
  pub tells : TellsRules written.text said
  pub passed : Passes old new (rules_lines said)
  pub heading : written.number ≡ old.number
