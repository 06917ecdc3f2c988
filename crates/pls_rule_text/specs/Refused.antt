-- What a call that reads a rule answers.
use Rattle.std.specs.Prelude.{◌≡◌, ℕ, List}
use Rattle.pls_rules.specs.Formula.{Formula}
use Rattle.pls_rule_text.specs.declared.rule_error.RuleError.{RuleError}
use Rattle.pls_rule_text.specs.declared.rule_error.RuleError.TheVariants.{NoMemory, Refused}
use Rattle.pls_rule_text.specs.RuleText.{Deep, RuleSaid, Shallow, formula_with, place_of_name}

-- the number of a refusal has the property
abbrev pub IfRefused : RuleError → (ℕ → Type 0) → Type 0
IfRefused (Refused number) P = P number
IfRefused NoMemory P = Unit {0}

-- the tree is that of what the rule says, whose fields stand by their places among the names
abbrev pub IsTreeOf : List (List ℕ) → RuleSaid → Formula ℕ → Type 0
IsTreeOf names (Shallow formula) tree = tree ≡ formula_with (place_of_name names) formula
IsTreeOf names (Deep text) tree = ⊥
