-- How labels of the scheme `mst` are lists of numbers: what stands in front of the levels, and then
-- four numbers for each level.
use Rattle.std.specs.Prelude.{ℕ, ◌<◌, nat_lt, if◌then◌else◌, List, [], ◌∷◌, All, Option, Some, None}
use Rattle.pls_numbers.specs.Shape.{Shape}
use Rattle.pls_boruvka.specs.declared.level.Level.{Level}
use Rattle.pls_levels.specs.declared.label.LevelLabel.{LevelLabel}
use Rattle.pls_levels.specs.Labels.{LevelForm, level_form, level_shape}

-- what a label says
abbrev pub MstLabel : Type 0
MstLabel = LevelLabel (List Level)

-- the numbers of a level
abbrev pub numbers_of_level : Level → List ℕ
numbers_of_level level = level.fragment ∷ level.weight ∷ level.a ∷ level.b ∷ []

-- the chosen edge of a level has its smaller end first
abbrev pub IsOrdered : Level → Type 0
IsOrdered level = level.a < level.b

-- the chosen edge of each level has its smaller end first
abbrev pub AreOrdered : List Level → Type 0
AreOrdered levels = All IsOrdered levels

-- the level that stands in front, with its edge in order, and the numbers behind it
abbrev pub level_off : List ℕ → Option (Level × List ℕ)
level_off (fragment ∷ weight ∷ a ∷ b ∷ rest) =
    if nat_lt a b
    then Some (record { fragment = fragment; weight = weight; a = a; b = b }, rest) else None
level_off list = None

-- levels of these numbers, whose edges are in order
abbrev pub mst_levels : LevelForm (List Level) Level
mst_levels = level_form level_off numbers_of_level IsOrdered

-- labels of these levels, each number in code
abbrev pub mst_shape : Shape MstLabel
mst_shape = level_shape mst_levels
