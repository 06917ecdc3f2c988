-- Labels of the scheme `pathmax`: numbers are a label exactly where they are its numbers.
use Rattle.std.proofs.Common.{◌≡◌, ℕ, ◌++◌, List, [], ◌∷◌, Some, refl, sym}
use Rattle.pls_numbers.specs.Shape.{AreItsNumbers}
use Rattle.pls_numbers.specs.laws.LeftLaws.{same_parts}
use Rattle.pls_centroid.specs.declared.level.CentroidLevel.{CentroidLevel}
use Rattle.pls_levels.specs.Labels.{IsExactForm}
use Rattle.pls_levels.specs.laws.LabelLaws.{level_numbers}
use Rattle.pls_pathmax.specs.Labels.{centroid_level_off, numbers_of_centroid_level, pathmax_levels, pathmax_shape}

-- three numbers are a level
level_only : (list : List ℕ) (level : CentroidLevel) (rest : List ℕ)
    → centroid_level_off list ≡ Some (level, rest) → (list ≡ numbers_of_centroid_level level ++ rest) × Unit {0}
level_only [] level rest is = absurd (cc)
level_only (centroid ∷ []) level rest is = absurd (cc)
level_only (centroid ∷ hops ∷ []) level rest is = absurd (cc)
level_only (centroid ∷ hops ∷ greatest ∷ more) level rest is =
    let read : CentroidLevel = record { centroid = centroid; hops = hops; greatest = greatest } in
    let same = same_parts (read, more) (level, rest) is in
    rw (sym same.0, sym same.1) (refl, tt)

-- a level is taken off exactly where its numbers stand in front
pub exact_levels : IsExactForm pathmax_levels
exact_levels = record {
  exact = record {
    read = λ level rest any. refl;
    only = level_only;
  };
  some = refl;
  there = λ levels. refl;
  back = λ levels. refl;
}

-- numbers are a label exactly where they are its numbers
pub pathmax_numbers : AreItsNumbers pathmax_shape
pathmax_numbers = level_numbers pathmax_levels exact_levels
