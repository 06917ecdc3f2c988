-- What rule sets answer: the code of one, and the text of one that has a name.
use Rattle.std.specs.Prelude.{[]}
use Rattle.std.specs.Option.{option_map_or}
use Rattle.pls_configuration.specs.declared.status.Status.TheVariants.{Done}
use Rattle.pls_names.specs.declared.scheme_name.SchemeName.{SchemeName}
use Rattle.pls_rules.specs.RuleSet.{Rules, rules_of}
use Rattle.pls_rules_part.specs.RulesText.{rules_text, said_of_set, set_said}
use Rattle.pls_compile.specs.Code.{code_of_rules}
use Rattle.pls_compile.specs.Listing.{listing_text}
use Rattle.pls_builtin.specs.Builtin.{set_of_name}
use Rattle.pls_inputs.specs.Parts.{Input}
use Rattle.pls_app.specs.Said.{Answer}

-- the rule set that an input says, without fields and rules where it says none
abbrev pub set_in : Input → Rules
set_in input = option_map_or set_said input.rules (rules_of [] [])

-- the answer with the code of a set
abbrev pub code_answer : Rules → Answer
code_answer set = record { status = Done; text = listing_text (code_of_rules set.rules) }

-- the answer with the text of the set that has the name of a scheme
abbrev pub rules_answer : SchemeName → Answer
rules_answer name = record {
  status = Done;
  text = option_map_or (λ set. rules_text (said_of_set set)) (set_of_name name) [];
}
