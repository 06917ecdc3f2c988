-- How labels of the scheme `pathmax` are lists of numbers: what stands in front of the levels, and
-- then three numbers for each level.
use Rattle.std.specs.Prelude.{ℕ, List, [], ◌∷◌, Option, Some, None}
use Rattle.pls_numbers.specs.Shape.{Shape}
use Rattle.pls_centroid.specs.declared.level.CentroidLevel.{CentroidLevel}
use Rattle.pls_levels.specs.declared.label.LevelLabel.{LevelLabel}
use Rattle.pls_levels.specs.Labels.{LevelForm, level_form, level_shape}

-- what a label says
abbrev pub PathMaxLabel : Type 0
PathMaxLabel = LevelLabel (List CentroidLevel)

-- the numbers of a level
abbrev pub numbers_of_centroid_level : CentroidLevel → List ℕ
numbers_of_centroid_level level = level.centroid ∷ level.hops ∷ level.greatest ∷ []

-- the level that stands in front, and the numbers behind it
abbrev pub centroid_level_off : List ℕ → Option (CentroidLevel × List ℕ)
centroid_level_off (centroid ∷ hops ∷ greatest ∷ rest) =
    Some (record { centroid = centroid; hops = hops; greatest = greatest }, rest)
centroid_level_off list = None

-- levels of these numbers, of which nothing else is asked
abbrev pub pathmax_levels : LevelForm (List CentroidLevel) CentroidLevel
pathmax_levels = level_form centroid_level_off numbers_of_centroid_level (λ _. Unit {0})

-- labels of these levels, each number in code
abbrev pub pathmax_shape : Shape PathMaxLabel
pathmax_shape = level_shape pathmax_levels
