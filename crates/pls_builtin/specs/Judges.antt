-- Rule sets that judge as a scheme does.
use Rattle.std.specs.Prelude.{◌≡◌, ℕ, Bool, List, Option, Some}
use Rattle.pls_numbers.specs.Shape.{Shape}
use Rattle.pls_labels.specs.Seen.{Seen}
use Rattle.pls_scheme.specs.Basic.{verdict_by}
use Rattle.pls_scheme.specs.Reading.{Read}
use Rattle.pls_names.specs.declared.scheme_name.SchemeName.{SchemeName}
use Rattle.pls_names.specs.Named.{judge_named}
use Rattle.pls_rules.specs.RuleSet.{Rules}
use Rattle.pls_compile.specs.RuleMeaning.{meaning}
use Rattle.pls_builtin.specs.Builtin.{set_of_name}

-- the set gives a view the verdict that these rules give it on labels of this shape, the number of
-- the rule that rejects included, whatever takes a code off the front of bits
abbrev pub JudgesAs : {L : Type 0} → Rules → Shape L → (Read L → List Bool) → Seen → Type 0
JudgesAs set shape rules view =
    (takes : List Bool → Option (ℕ × List Bool))
    → meaning takes set view ≡ verdict_by shape rules takes view

-- the set that has the name of a scheme, if one has, gives the view the verdict of the scheme, in
-- every number code
abbrev pub JudgesAsNamed : SchemeName → Seen → Type 0
JudgesAsNamed name view = (set : Rules) → set_of_name name ≡ Some set
    → (takes : List Bool → Option (ℕ × List Bool))
    → meaning takes set view ≡ judge_named takes name view
