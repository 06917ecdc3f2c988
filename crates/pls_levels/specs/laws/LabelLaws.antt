-- Numbers are a label with levels exactly where they are its numbers.
use Rattle.std.proofs.Common.{◌≡◌, ◌∙◌, ℕ, List, [], ◌∷◌, length, All, Option, Some, None, option_map, refl, sym, ap, subst}
use Rattle.std.specs.List.{flat_map}
use Rattle.std.specs.Option.{option_and_then}
use Rattle.pls_numbers.specs.Shape.{AreItsNumbers}
use Rattle.pls_numbers.specs.Taking.{items_in}
use Rattle.pls_numbers.specs.laws.LeftLaws.{same_parts}
use Rattle.pls_numbers.specs.laws.TakingLaws.{items_only, items_read}
use Rattle.pls_levels.specs.declared.label.LevelHead.{LevelHead}
use Rattle.pls_levels.specs.declared.label.LevelLabel.{LevelLabel}
use Rattle.pls_levels.specs.Labels.{IsExactForm, LevelForm, head_of, head_off, head_with, label_behind, label_listed, label_with, level_label_of, level_shape, numbers_of_level_label}

-- five numbers stand in front
head_only : (list : List ℕ) (head : LevelHead) (rest : List ℕ) → head_off list ≡ Some (head, rest)
    → list ≡ head.root ∷ head.own ∷ head.parent ∷ head.depth ∷ head.count ∷ rest
head_only [] head rest is = absurd (cc)
head_only (root ∷ []) head rest is = absurd (cc)
head_only (root ∷ own ∷ []) head rest is = absurd (cc)
head_only (root ∷ own ∷ parent ∷ []) head rest is = absurd (cc)
head_only (root ∷ own ∷ parent ∷ depth ∷ []) head rest is = absurd (cc)
head_only (root ∷ own ∷ parent ∷ depth ∷ count ∷ more) head rest is =
    let same = same_parts (head_with root own parent depth count, more) (head, rest) is in
    rw (sym same.0, sym same.1) refl

module _ {S X : Type 0} (form : LevelForm S X) (exact : IsExactForm form) where
  -- the numbers in front of levels, and theirs
  abbrev numbers_with : LevelHead → List X → List ℕ
  numbers_with head levels =
      head.root ∷ head.own ∷ head.parent ∷ head.depth ∷ length levels
      ∷ flat_map form.numbers levels

  label_only : (list : List ℕ) (label : LevelLabel S) → level_label_of form list ≡ Some label
      → (list ≡ numbers_of_level_label form label) × All form.Proper (form.items label.levels)
  label_only list label is = by (head_off list) refl is
    where
      onward : (head : LevelHead) (rest : List ℕ) → head_off list ≡ Some (head, rest)
          → (levels : Option (List X)) → items_in form.off head.count rest ≡ levels
          → option_map (label_listed form head) levels ≡ Some label
          → (list ≡ numbers_of_level_label form label) × All form.Proper (form.items label.levels)
      onward head rest front None read is = absurd (cc)
      onward head rest front (Some levels) read is =
          let same : label_listed form head levels ≡ label = cc in
          let all = items_only form.off form.numbers form.Proper exact.exact head.count rest levels
          read in
          subst (λ (label : LevelLabel S).
          (list ≡ numbers_of_level_label form label) × All form.Proper (form.items label.levels)) same
          (subst (λ (levels : List X). (list ≡ numbers_with head levels) × All form.Proper levels)
          (sym (exact.there levels)) (
            head_only list head rest front
                ∙ ap (λ (tail : List ℕ). head.root ∷ head.own ∷ head.parent ∷ head.depth
                ∷ head.count ∷ tail) all.1
                ∙ ap (λ (count : ℕ). head.root ∷ head.own ∷ head.parent ∷ head.depth ∷ count
                ∷ flat_map form.numbers levels) (sym all.0),
            all.2,
          ))

      by : (front : Option (LevelHead × List ℕ)) → head_off list ≡ front
          → option_and_then (label_behind form) front ≡ Some label
          → (list ≡ numbers_of_level_label form label) × All form.Proper (form.items label.levels)
      by None front is = absurd (cc)
      by (Some found) front is =
          onward found.0 found.1 front (items_in form.off found.0.count found.1) refl is

  label_read : (label : LevelLabel S) → All form.Proper (form.items label.levels)
      → level_label_of form (numbers_of_level_label form label) ≡ Some label
  label_read label proper =
      ap (option_map (label_listed form (head_of form label)))
      (items_read form.off form.numbers form.Proper exact.exact (form.items label.levels) proper)
      ∙ ap (λ (levels : S). Some (label_with (head_of form label) levels)) (exact.back label.levels)

  -- numbers are a label exactly where they are its numbers, with proper levels
  pub level_numbers : AreItsNumbers (level_shape form)
  level_numbers list label =
      (label_only list label, λ its. ap (level_label_of form) its.0 ∙ label_read label its.1)
