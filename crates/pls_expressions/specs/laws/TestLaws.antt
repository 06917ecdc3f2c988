-- The test of an expression passes exactly where a connected network has the property.
use Rattle.pls_truth_values.specs.laws.Tested.{both_tells, either_tells}
use Rattle.pls_names.specs.laws.NamedLaws.{laws_of}
use Rattle.pls_diameter_bridges.specs.laws.TestLaws.{bridgeless_tested, diameter_tested}
use Rattle.pls_universal.specs.Rules.{IsTestOf}
use Rattle.pls_expressions.specs.Expression.{Expression, And, Bridgeless, Diameter, HasProperty, Map, Of, Or, test_of}

pub test_tells : (property : Expression) → IsTestOf (test_of property) (HasProperty property)
test_tells (Of name) rows net joined = (laws_of name).tested rows net joined
test_tells (Diameter most) rows net joined = diameter_tested most rows
test_tells Bridgeless rows net joined = bridgeless_tested rows
test_tells (Map property) rows net joined = test_tells property rows net joined
test_tells (And first second) rows net joined =
    both_tells (test_tells first rows net joined) (test_tells second rows net joined)
test_tells (Or first second) rows net joined =
    either_tells (test_tells first rows net joined) (test_tells second rows net joined)
