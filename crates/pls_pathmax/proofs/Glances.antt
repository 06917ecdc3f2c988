-- What is kept of labels.
use Rattle.std.proofs.Common.{◌≡◌, ◌∙◌, ℕ, zero, suc, ◌+◌, ◌-◌, Bool, List, [], ◌∷◌, length, Option, Some, None, slice_get, refl, sym, ap, add-one, arith}
use Rattle.std.specs.Prelude.{option_map}
use Rattle.pls_centroid.specs.declared.level.CentroidLevel.{CentroidLevel}
use Rattle.pls_numbers.specs.Numbers.{NumbersLeft}
use Rattle.pls_levels.specs.Labels.{are_levels}
use Rattle.pls_levels.specs.declared.label.LevelHead.{LevelHead}
use Rattle.pls_pathmax.specs.declared.glance.PathMaxGlance.{PathMaxGlance}
use Rattle.pls_pathmax.specs.declared.kept_level.KeptLevel.{KeptLevel}
use Rattle.pls_pathmax.specs.Labels.{PathMaxLabel, pathmax_levels}
use Rattle.pls_pathmax.specs.inner.Glance.{IsFront, glance_said, glance_with, head_seen, last_level}
use Rattle.pls_pathmax.specs.inner.Reading.{head_said}

-- the last of so many levels that stand first
abbrev pub last_before : List CentroidLevel → ℕ → Option CentroidLevel
last_before levels zero = None
last_before levels (suc n) = slice_get levels n

-- with the next one
pub last_more : (levels : List CentroidLevel) (n : ℕ) (level : CentroidLevel)
    → slice_get levels n ≡ Some level → Some level ≡ last_before levels (n + 1)
last_more levels n level at = rw (add-one n, at) refl

-- and of all
pub last_of_all : (levels : List CentroidLevel) (n : ℕ) → length levels ≡ n
    → last_before levels n ≡ last_level levels
last_of_all [] zero all = refl
last_of_all (level ∷ levels) zero all = absurd (cc)
last_of_all levels (suc n) all = ap (slice_get levels) (omega (arith, all))

-- where so many levels were read, they are all that is left if nothing is left behind them
pub all_read : (count number : ℕ) (start left : NumbersLeft) (at_end : Bool) → count - number ≡ 0
    → are_levels pathmax_levels count start ≡ are_levels pathmax_levels (count - number) left
    → at_end ≡ are_levels pathmax_levels 0 left → are_levels pathmax_levels count start ≡ at_end
all_read count number start left at_end none so_far ends =
    so_far ∙ ap (λ (count : ℕ). are_levels pathmax_levels count left) none ∙ sym ends

-- what is kept of the label above has in it what stands in front of its levels
pub head_kept : (N : ℕ) (above : Option PathMaxLabel) (kept : Option (PathMaxGlance N))
    (head : Option LevelHead) → head ≡ option_map (head_seen N) kept
    → kept ≡ option_map (glance_said N) above → head ≡ option_map head_said above
head_kept N above kept head is kept_is = is ∙ ap (option_map (head_seen N)) kept_is ∙ by above
  where
    by : (above : Option PathMaxLabel)
        → option_map (head_seen N) (option_map (glance_said N) above) ≡ option_map head_said above
    by None = refl
    by (Some label) = refl

-- what is kept of a label, by what was read of it
pub kept_of_label : (N : ℕ) (said : Option PathMaxLabel) (label : PathMaxLabel) (head : LevelHead)
    (kept : ℕ) (front : List KeptLevel) (last : Option CentroidLevel) → said ≡ Some label
    → head_said label ≡ head → IsFront N kept front label.levels → last ≡ last_level label.levels
    → Some (glance_with N head kept front last) ≡ option_map (glance_said N) said
kept_of_label N said label head kept front last there head_is front_is last_is =
    rw (there, ← head_is, front_is.0, front_is.1, last_is) refl
