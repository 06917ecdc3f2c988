-- Labels of the scheme `mst`: numbers are a label exactly where they are its numbers.
use Rattle.std.proofs.Common.{◌≡◌, ℕ, nat_lt, ◌++◌, Bool, true, false, if◌then◌else◌, List, [], ◌∷◌, Option, Some, None, refl, sym, ap}
use Rattle.std.proofs.lemmas.Bool.{lt-ltb, ltb-true}
use Rattle.pls_numbers.specs.Shape.{AreItsNumbers}
use Rattle.pls_numbers.specs.Taking.{IsExact}
use Rattle.pls_numbers.specs.laws.LeftLaws.{same_parts}
use Rattle.pls_boruvka.specs.declared.level.Level.{Level}
use Rattle.pls_levels.specs.Labels.{IsExactForm}
use Rattle.pls_levels.specs.laws.LabelLaws.{level_numbers}
use Rattle.pls_mst.specs.Labels.{IsOrdered, level_off, mst_levels, mst_shape, numbers_of_level}

-- the level of four numbers
abbrev level_with : ℕ → ℕ → ℕ → ℕ → Level
level_with fragment weight a b =
    record { fragment = fragment; weight = weight; a = a; b = b }

-- a level, where its edge is in order
abbrev in_order : Bool → Level → List ℕ → Option (Level × List ℕ)
in_order less level rest = if less then Some (level, rest) else None

-- four numbers are a level
level_only : (list : List ℕ) (level : Level) (rest : List ℕ) → level_off list ≡ Some (level, rest)
    → (list ≡ numbers_of_level level ++ rest) × IsOrdered level
level_only [] level rest is = absurd (cc)
level_only (fragment ∷ []) level rest is = absurd (cc)
level_only (fragment ∷ weight ∷ []) level rest is = absurd (cc)
level_only (fragment ∷ weight ∷ a ∷ []) level rest is = absurd (cc)
level_only (fragment ∷ weight ∷ a ∷ b ∷ more) level rest is = by (nat_lt a b) refl is
  where
    by : (less : Bool) → nat_lt a b ≡ less
        → in_order less (level_with fragment weight a b) more ≡ Some (level, rest)
        → (fragment ∷ weight ∷ a ∷ b ∷ more ≡ numbers_of_level level ++ rest) × IsOrdered level
    by false less is = absurd (cc)
    by true less is =
        let same = same_parts (level_with fragment weight a b, more) (level, rest) is in
        rw (sym same.0, sym same.1) (refl, ltb-true a b less)

exact_level : IsExact level_off numbers_of_level IsOrdered
exact_level = record {
  read = λ level rest ordered. ap (λ (less : Bool). in_order less level rest)
      (lt-ltb level.a level.b ordered);
  only = level_only;
}

-- a level is taken off exactly where its numbers stand in front
pub exact_levels : IsExactForm mst_levels
exact_levels = record {
  exact = exact_level;
  some = refl;
  there = λ levels. refl;
  back = λ levels. refl;
}

-- numbers are a label exactly where they are its numbers, in order
pub mst_numbers : AreItsNumbers mst_shape
mst_numbers = level_numbers mst_levels exact_levels
