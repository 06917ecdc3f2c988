-- The levels that are left behind those that were taken.
use Rattle.std.proofs.Common.{◌≡◌, ◌∙◌, ℕ, suc, ◌+◌, ◌<◌, true, false, List, [], ◌∷◌, ◌++◌, length, drop, Option, Some, None, IfSome, IfNone, is_some, refl, sym, ap, subst, arith, append_assoc}
use Rattle.std.proofs.lemmas.List.{append-nil, drop-drop, length-drop}
use Rattle.pls_numbers.specs.Numbers.{NumbersLeft}
use Rattle.pls_numbers.specs.Taking.{items_in}
use Rattle.pls_numbers.specs.laws.LeftLaws.{same_parts}
use Rattle.pls_numbers.specs.laws.TakingLaws.{items_off-next, items_off-none, split_items}
use Rattle.pls_levels.specs.Labels.{AreFewer, AreLevelsLeft, ArePassed, HasNoLevel, IsExactForm, IsLevelTaken, LevelForm, levels_off}

module _ {S X : Type 0} (form : LevelForm S X) where
  -- where no level comes next, none is left
  pub none_left : (left : NumbersLeft) (levels : List X) → HasNoLevel form left
      → AreLevelsLeft form left levels → levels ≡ []
  none_left left [] none are = refl
  none_left left (level ∷ levels) none are =
      let parts = split_items form.off (length levels) left.numbers (level ∷ levels) are in
      let next : form.off left.numbers ≡ Some (parts.0, parts.1) = parts.3 in absurd (cc)

  -- where one is taken, it is the first of those that are left, and then the others are
  pub next_left : IsExactForm form → (old new : NumbersLeft) (level : X) (levels : List X)
      → IsLevelTaken form level old new → AreLevelsLeft form old levels
      → (levels ≡ level ∷ drop 1 levels) × AreLevelsLeft form new (drop 1 levels)
  next_left exact old new level [] taken are = by old.numbers taken.front are
    where
      by : (numbers : List ℕ) → form.off numbers ≡ Some (level, new.numbers)
          → items_in form.off 0 numbers ≡ Some []
          → ([] ≡ level ∷ []) × AreLevelsLeft form new []
      by [] front are =
          let no : None ≡ Some (level, new.numbers) = sym exact.some ∙ front in absurd (cc)
      by (number ∷ numbers) front are = absurd (cc)
  next_left exact old new level (first ∷ levels) taken are =
      let parts = split_items form.off (length levels) old.numbers (first ∷ levels) are in
      let same = same_parts (parts.0, parts.1) (level, new.numbers) (sym parts.3 ∙ taken.front) in
      let both = heads parts.0 first parts.2 levels parts.5 in (
        ap (λ (item : X). item ∷ levels) (sym both.0 ∙ same.0),
        ap (items_in form.off (length levels)) (sym same.1) ∙ parts.4
            ∙ ap (λ (levels : List X). Some levels) both.1,
      )
    where
      heads : (x y : X) (xs ys : List X) → x ∷ xs ≡ y ∷ ys → (x ≡ y) × (xs ≡ ys)
      heads x y xs ys is = let one : x ≡ y = cc in let rest : xs ≡ ys = cc in (one, rest)

  -- a call that reads the level that comes next, and finds one, passes one more
  pub passed_more : IsExactForm form → (count : ℕ) (start old new : NumbersLeft)
      (result : Option X) → IfSome result (λ level. IsLevelTaken form level old new)
      → is_some result ≡ true → ArePassed form count start old
      → ArePassed form (count + 1) start new
  passed_more exact count start old new None taken there passed levels are = absurd (cc)
  passed_more exact count start old new (Some level) taken there passed levels are =
      subst (AreLevelsLeft form new) (drop-drop 1 count levels)
      (next_left exact old new level (drop count levels) taken (passed levels are)).1

  -- one that finds none says that no more were left than were passed
  pub fewer_left : (count more : ℕ) (start old : NumbersLeft) (result : Option X)
      → IfNone result (HasNoLevel form old) → is_some result ≡ false
      → ArePassed form count start old → count < more → AreFewer form more start
  fewer_left count more start old (Some level) none there passed few levels are = absurd (cc)
  fewer_left count more start old None none there passed few levels are =
      let ends : drop count levels ≡ [] =
      none_left old (drop count levels) none (passed levels are) in
      let long = length-drop count levels in
      let zero = ap length ends in
      omega (arith, long, zero, few)

  -- so many are passed at the end
  pub all_passed : (count most : ℕ) (start left : NumbersLeft) → count ≡ most
      → ArePassed form count start left → ArePassed form most start left
  all_passed count most start left ends passed =
      subst (λ (count : ℕ). ArePassed form count start left) ends passed

  -- what was read so far, with one level more
  pub read_more : (count left : ℕ) (start : List ℕ) (found items : List X)
      (old new : NumbersLeft) (level : X)
      → levels_off form count start ≡ found ++ levels_off form (suc left) old.numbers
      → IsLevelTaken form level old new → items ≡ found ++ level ∷ []
      → levels_off form count start ≡ items ++ levels_off form left new.numbers
  read_more count left start found items old new level so_far taken is =
      so_far
      ∙ ap (λ (more : List X). found ++ more) (items_off-next form.off left level old new taken)
      ∙ sym (append_assoc found (level ∷ []) (levels_off form left new.numbers))
      ∙ ap (λ (items : List X). items ++ levels_off form left new.numbers) (sym is)

  -- and where no more comes
  pub read_all : (count left : ℕ) (start : List ℕ) (found : List X) (old : NumbersLeft)
      → levels_off form count start ≡ found ++ levels_off form (suc left) old.numbers
      → HasNoLevel form old → found ≡ levels_off form count start
  read_all count left start found old so_far none =
      sym (append-nil found) ∙ sym (so_far
      ∙ ap (λ (more : List X). found ++ more) (items_off-none form.off left old.numbers none))

  -- the number of those that are left, in another way
  pub as_many : (count left also : ℕ) (start : List ℕ) (found : List X) (old : NumbersLeft)
      → left ≡ also → levels_off form count start ≡ found ++ levels_off form left old.numbers
      → levels_off form count start ≡ found ++ levels_off form also old.numbers
  as_many count left also start found old same so_far =
      so_far ∙ ap (λ (left : ℕ). found ++ levels_off form left old.numbers) same
