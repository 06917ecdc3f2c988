-- Labels by what was read of them.
use Rattle.std.proofs.Common.{◌≡◌, ◌∙◌, ℕ, ◌&&◌, Bool, true, false, if◌then◌else◌, List, [], ◌∷◌, length, Option, Some, None, IfSome, IfNone, option_map, is_some, refl, sym, ap, subst, arith}
use Rattle.std.specs.Option.{option_and_then}
use Rattle.std.proofs.lemmas.List.{take_all}
use Rattle.std.proofs.lemmas.Option.{same_Some}
use Rattle.pls_numbers.specs.Numbers.{NumbersLeft, with_number}
use Rattle.pls_numbers.specs.Shape.{if_clean}
use Rattle.pls_numbers.specs.Taking.{IsTaken, items_in}
use Rattle.pls_numbers.specs.laws.TakingLaws.{items_off-take, items_only}
use Rattle.pls_levels.specs.declared.label.LevelHead.{LevelHead}
use Rattle.pls_levels.specs.declared.label.LevelLabel.{LevelLabel}
use Rattle.pls_levels.specs.Labels.{AreLevelsLeft, IsExactForm, LevelForm, are_levels, head_of, head_off, head_with, label_behind, label_listed, label_with, level_label_of, levels_off}

-- what is left with this in front
abbrev pub with_head : LevelHead → NumbersLeft → NumbersLeft
with_head head left = with_number head.root (with_number head.own
    (with_number head.parent (with_number head.depth (with_number head.count left))))

module _ {S X : Type 0} (form : LevelForm S X) (exact : IsExactForm form) where
  -- the label behind what was taken off
  abbrev with_levels : Option (LevelHead × List ℕ) → Option (LevelLabel S)
  with_levels front = option_and_then (label_behind form) front

  -- without what stands in front there is no label
  pub no_head : (left : NumbersLeft) → head_off left.numbers ≡ None
      → if_clean (level_label_of form) left ≡ None
  no_head left none =
      ap (λ (front : Option (LevelHead × List ℕ)). if left.clean then with_levels front else None)
      none
      ∙ by left.clean
    where
      by : (clean : Bool) → (if clean then with_levels None else None) ≡ None
      by true = refl
      by false = refl

  module _ (left new : NumbersLeft) (head : LevelHead) (taken : IsTaken head_off head left new)
    where
      -- a label is what stands in front and the levels behind it
      said_levels : if_clean (level_label_of form) left ≡ (if new.clean
          then option_map (label_listed form head) (items_in form.off head.count new.numbers)
          else None)
      said_levels =
          ap (λ (front : Option (LevelHead × List ℕ)).
          if left.clean then with_levels front else None) taken.front
          ∙ ap (λ (clean : Bool). if clean then with_levels (Some (head, new.numbers)) else None)
          taken.same

      -- there is one where these are as many as it states
      pub a_label : are_levels form head.count new ≡ true
          → (label : LevelLabel S) × (if_clean (level_label_of form) left ≡ Some label)
          × (head_of form label ≡ head)
          × AreLevelsLeft form new (form.items label.levels)
      a_label there =
          by new.clean (items_in form.off head.count new.numbers) refl refl there
        where
          by : (clean : Bool) (found : Option (List X)) → new.clean ≡ clean
              → items_in form.off head.count new.numbers ≡ found
              → (clean && is_some found) ≡ true
              → (label : LevelLabel S) × (if_clean (level_label_of form) left ≡ Some label)
              × (head_of form label ≡ head)
              × AreLevelsLeft form new (form.items label.levels)
          by false found clean read there = absurd (cc)
          by true None clean read there = absurd (cc)
          by true (Some levels) clean read there =
              let many : length levels ≡ head.count = (items_only form.off form.numbers form.Proper
              exact.exact head.count new.numbers levels read).0 in
              let same : form.items (form.list_of levels) ≡ levels = exact.there levels in (
                label_listed form head levels,
                said_levels ∙ rw (clean, read) refl,
                ap (head_with head.root head.own head.parent head.depth)
                    (ap (λ (levels : List X). length levels) same ∙ many),
                subst (AreLevelsLeft form new) (sym same)
                    (ap (λ (count : ℕ). items_in form.off count new.numbers) many ∙ read),
              )

      -- and else there is none
      pub no_label : are_levels form head.count new ≡ false → if_clean (level_label_of form) left ≡ None
      no_label there =
          by new.clean (items_in form.off head.count new.numbers) refl refl there
        where
          by : (clean : Bool) (found : Option (List X)) → new.clean ≡ clean
              → items_in form.off head.count new.numbers ≡ found
              → (clean && is_some found) ≡ false → if_clean (level_label_of form) left ≡ None
          by false found clean read there = said_levels ∙ rw clean refl
          by true None clean read there = said_levels ∙ rw (clean, read) refl
          by true (Some levels) clean read there = absurd (cc)

  module _ (old new : NumbersLeft) (result : Option LevelHead)
      (taken : IfSome result (λ head. IsTaken head_off head old new))
      (none : IfNone result (head_off old.numbers ≡ None)) (label : LevelLabel S)
      (is : if_clean (level_label_of form) old ≡ Some label) where
    -- where there is a label, what stands in front was taken, and its levels are left
    pub head_left : (result ≡ Some (head_of form label))
        × AreLevelsLeft form new (form.items label.levels)
    head_left = of result taken none
      where
        of : (result : Option LevelHead)
            → IfSome result (λ head. IsTaken head_off head old new)
            → IfNone result (head_off old.numbers ≡ None)
            → (result ≡ Some (head_of form label))
            × AreLevelsLeft form new (form.items label.levels)
        of None taken none = let no : None ≡ Some label = sym (no_head old none) ∙ is in absurd (cc)
        of (Some head) taken none = by (are_levels form head.count new) refl
          where
            by : (there : Bool) → are_levels form head.count new ≡ there
                → (Some head ≡ Some (head_of form label))
                × AreLevelsLeft form new (form.items label.levels)
            by false there =
                let no : None ≡ Some label = sym (no_label old new head taken there) ∙ is in
                absurd (cc)
            by true there =
                let (found, said, front, levels) = a_label old new head taken there in
                subst (λ (label : LevelLabel S). (Some head ≡ Some (head_of form label))
                × AreLevelsLeft form new (form.items label.levels))
                (same_Some found label (sym said ∙ is)) (ap Some (sym front), levels)

  -- the numbers of a label are those in front of its levels, and then these
  pub label_parts : (left : NumbersLeft) (label : LevelLabel S)
      → if_clean (level_label_of form) left ≡ Some label
      → (rest : NumbersLeft) × (left ≡ with_head (head_of form label) rest)
      × AreLevelsLeft form rest (form.items label.levels)
  label_parts left label is = by left.numbers refl
    where
      short : head_off left.numbers ≡ None → ⊥
      short none = let no : None ≡ Some label = sym (no_head left none) ∙ is in absurd (cc)

      by : (numbers : List ℕ) → left.numbers ≡ numbers
          → (rest : NumbersLeft) × (left ≡ with_head (head_of form label) rest)
          × AreLevelsLeft form rest (form.items label.levels)
      by [] are = absurd (short (ap head_off are))
      by (a ∷ []) are = absurd (short (ap head_off are))
      by (a ∷ b ∷ []) are = absurd (short (ap head_off are))
      by (a ∷ b ∷ c ∷ []) are = absurd (short (ap head_off are))
      by (a ∷ b ∷ c ∷ d ∷ []) are = absurd (short (ap head_off are))
      by (a ∷ b ∷ c ∷ d ∷ e ∷ numbers) are =
          let rest : NumbersLeft = record { numbers = numbers; clean = left.clean } in
          let head : LevelHead = head_with a b c d e in
          let (same, levels) = head_left left rest (Some head)
          (record { front = ap head_off are; same = refl }) tt label is in
          let front = same_Some head (head_of form label) same in (
            rest,
            ap (λ (numbers : List ℕ). let some : NumbersLeft = record { numbers = numbers; clean = left.clean } in some) are
                ∙ ap (λ (head : LevelHead). with_head head rest) front,
            levels,
          )

  -- where there is something in front of levels, it is that of a label
  pub label_there : (said : Option (LevelLabel S)) (head : LevelHead)
      → Some head ≡ option_map (head_of form) said
      → (label : LevelLabel S) × (said ≡ Some label) × (head_of form label ≡ head)
  label_there None head is = absurd (cc)
  label_there (Some label) head is =
      (label, refl, sym (same_Some head (head_of form label) is))

  -- the label that is made of what was read is the one that is there
  pub label_made : (said : Option (LevelLabel S)) (head : LevelHead) (left : NumbersLeft)
      (list : S) → Some head ≡ option_map (head_of form) said
      → ((label : LevelLabel S) → said ≡ Some label
      → AreLevelsLeft form left (form.items label.levels))
      → form.items list ≡ levels_off form head.count left.numbers
      → Some (label_with head list) ≡ said
  label_made said head left list in_front behind read =
      let (label, there, front) = label_there said head in_front in
      let items : List X = form.items label.levels in
      let many : length items ≡ head.count = ap (λ (head : LevelHead). head.count) front in
      let all : form.items list ≡ items = read
      ∙ items_off-take form.off head.count (length items) left.numbers items
      (behind label there) (omega (arith, many))
      ∙ take_all head.count items (omega (arith, many)) in
      let levels : list ≡ label.levels =
      sym (exact.back list) ∙ ap form.list_of all ∙ exact.back label.levels in
      ap (λ (levels : S). Some (label_with head levels)) levels
      ∙ ap (λ (head : LevelHead). Some (label_with head label.levels)) (sym front) ∙ sym there
