-- Expressions over the names of schemes: the property, the same as a test, and how large they are.
use Rattle.std.specs.Prelude.{ℕ, ◌+◌, ◌<◌, ◌≤◌, ◌⊎◌, ◌&&◌, ◌||◌, ⊤, max, Bool, true, false, List}
use Rattle.pls_configuration.specs.declared.limits.TheConstants.{MAX_NODES}
use Rattle.pls_configuration.specs.declared.row.NodeRow.{NodeRow}
use Rattle.pls_diameter_bridges.specs.Bridgeless.{IsBridgeless}
use Rattle.pls_diameter_bridges.specs.Diameter.{HasDiameterAtMost}
use Rattle.pls_diameter_bridges.specs.Tests.{bridgeless_test, diameter_test}
use Rattle.pls_names.specs.declared.scheme_name.SchemeName.{SchemeName}
use Rattle.pls_names.specs.Named.{HasNamed, test_named}

-- an expression: the name of a scheme, a property that has no scheme of its own, the universal
-- scheme of a property, both of two, or one of two
pub data Expression : Type 0 where
  Of : SchemeName → Expression
  Diameter : ℕ → Expression
  Bridgeless : Expression
  Map : Expression → Expression
  And : Expression → Expression → Expression
  Or : Expression → Expression → Expression

-- the network of the rows has the property
abbrev pub HasProperty : Expression → List NodeRow → Type 0
HasProperty (Of name) rows = HasNamed name rows
HasProperty (Diameter most) rows = HasDiameterAtMost most rows
HasProperty Bridgeless rows = IsBridgeless rows
HasProperty (Map property) rows = HasProperty property rows
HasProperty (And first second) rows = HasProperty first rows × HasProperty second rows
HasProperty (Or first second) rows = HasProperty first rows ⊎ HasProperty second rows

-- the property of an expression as a test, for connected networks
abbrev pub test_of : Expression → List NodeRow → Bool
test_of (Of name) rows = test_named name rows
test_of (Diameter most) rows = diameter_test most rows
test_of Bridgeless rows = bridgeless_test rows
test_of (Map property) rows = test_of property rows
test_of (And first second) rows = test_of first rows && test_of second rows
test_of (Or first second) rows = test_of first rows || test_of second rows

-- how many names stand in an expression
abbrev pub count_of_names : Expression → ℕ
count_of_names (Map property) = count_of_names property
count_of_names (And first second) = count_of_names first + count_of_names second
count_of_names (Or first second) = count_of_names first + count_of_names second
count_of_names name = 1

-- how deep an expression is: 1 for a name
abbrev pub depth_of : Expression → ℕ
depth_of (Map property) = 1 + depth_of property
depth_of (And first second) = 1 + max (depth_of first) (depth_of second)
depth_of (Or first second) = 1 + max (depth_of first) (depth_of second)
depth_of name = 1

-- an expression can be written, inside of `map` (true) or alone: diameters and bridges stand inside
-- of `map` and no `map` does, and a diameter is at most 32,767
abbrev pub CanBeWritten : Bool → Expression → Type 0
CanBeWritten inside (Of name) = ⊤
CanBeWritten true (Diameter most) = most < MAX_NODES
CanBeWritten false (Diameter most) = ⊥
CanBeWritten true Bridgeless = ⊤
CanBeWritten false Bridgeless = ⊥
CanBeWritten true (Map property) = ⊥
CanBeWritten false (Map property) = CanBeWritten true property
CanBeWritten inside (And first second) = CanBeWritten inside first × CanBeWritten inside second
CanBeWritten inside (Or first second) = CanBeWritten inside first × CanBeWritten inside second

-- an expression of schemes that can be written, of at most 8 names and at most 8 deep
pub record IsSmall (scheme : Expression) : Type 0 where
  pub few : count_of_names scheme ≤ 8
  pub shallow : depth_of scheme ≤ 8
  pub writable : CanBeWritten false scheme
