-- By what a text of rules is refused that is of the form.
use Rattle.std.specs.Prelude.{◌≡◌, ◌⊎◌, ℕ, List, Option, Some}
use Rattle.pls_streams.specs.declared.text_error.TextError.{TextError}
use Rattle.pls_streams.specs.declared.text_error.TextError.TheVariants.{NoMemory}
use Rattle.pls_lines.specs.Fault.{NamesFirstFault}
use Rattle.pls_rules_part.specs.RulesScan.{IsRulesPart, TellsRules}
use Rattle.pls_rules_part.specs.RulesText.{RulesSaid, rules_refusal}

-- the error is this refusal, or there was no memory
abbrev pub SaysTextRefusal : Option TextError → TextError → Type 0
SaysTextRefusal refusal NoMemory = Unit {0}
SaysTextRefusal refusal error = refusal ≡ Some error

-- the error is that of the first line by which a part is refused whose heading is in this line, or
-- there was no memory
abbrev pub IsRulesRefusal : ℕ → RulesSaid → TextError → Type 0
IsRulesRefusal heading said error = SaysTextRefusal (rules_refusal heading said) error

-- why a text is refused that is to be one rules part: its first faulty line, or the refusal of what
-- it says
abbrev pub IsRefusedRules : List ℕ → TextError → Type 0
IsRefusedRules text error = NamesFirstFault IsRulesPart text error
    ⊎ ((said : RulesSaid) × TellsRules text said × IsRulesRefusal 1 said error)
