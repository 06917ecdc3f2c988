-- Tests of two lists side by side, and of numbered items.
use Rattle.std.proofs.Common.{◌≡◌, ◌∙◌, ℕ, zero, suc, ◌+◌, inl, inr, Bool, true, List, [], ◌∷◌, slice_get, Some, refl, sym, ap, subst, arith}
use Rattle.std.specs.List.{enumerate_from, list_all, list_any, zip}
use Rattle.std.proofs.lemmas.Bool.{and_from, and_parts, or_cases, or_left, or_right}
use Rattle.std.proofs.lemmas.Option.{same_Some}

module _ {X : Type 0} (test : X → X → Bool) where
  -- the test of what stands side by side
  abbrev beside : X × X → Bool
  beside both = test both.0 both.1

  -- items at one place of both lists that pass
  pub record PassAt (xs ys : List X) : Type 0 where
    pub place : ℕ
    pub one : X
    pub other : X
    pub at : slice_get xs place ≡ Some one
    pub there : slice_get ys place ≡ Some other
    pub passes : test one other ≡ true

  -- what some pass, those at a place do
  pub some_place : (xs ys : List X) → list_any beside (zip xs ys) ≡ true → PassAt xs ys
  some_place [] ys some = absurd (cc)
  some_place (x ∷ xs) [] some = absurd (cc)
  some_place (x ∷ xs) (y ∷ ys) some =
      elim (or_cases (test x y) (list_any beside (zip xs ys)) some) [
        | inl here ↦ record {
          place = 0;
          one = x;
          other = y;
          at = refl;
          there = refl;
          passes = here;
        }
        | inr later ↦ let rest : PassAt xs ys = some_place xs ys later in record {
          place = suc rest.place;
          one = rest.one;
          other = rest.other;
          at = rest.at;
          there = rest.there;
          passes = rest.passes;
        }
      ]

  -- what those at a place pass, some do
  pub some_pass : (xs ys : List X) (i : ℕ) (x y : X) → slice_get xs i ≡ Some x
      → slice_get ys i ≡ Some y → test x y ≡ true → list_any beside (zip xs ys) ≡ true
  some_pass [] ys i x y at there passes = absurd (cc)
  some_pass (first ∷ xs) [] i x y at there passes = absurd (cc)
  some_pass (first ∷ xs) (also ∷ ys) zero x y at there passes =
      or_left (test first also) (list_any beside (zip xs ys))
      (ap (λ (x : X). test x also) (same_Some first x at)
      ∙ ap (test x) (same_Some also y there) ∙ passes)
  some_pass (first ∷ xs) (also ∷ ys) (suc i) x y at there passes =
      or_right (test first also) (list_any beside (zip xs ys))
      (some_pass xs ys i x y at there passes)

module _ {X : Type 0} (test : ℕ → X → Bool) where
  -- the test of an item and its number
  abbrev numbered : ℕ × X → Bool
  numbered both = test both.0 both.1

  -- an item at a place that passes
  pub record PassesAt (first : ℕ) (xs : List X) : Type 0 where
    pub place : ℕ
    pub item : X
    pub at : slice_get xs place ≡ Some item
    pub passes : test (first + place) item ≡ true

  passes_numbered : (first : ℕ) (xs : List X)
      → list_all numbered (enumerate_from first xs) ≡ true → (i : ℕ) (x : X)
      → slice_get xs i ≡ Some x → test (first + i) x ≡ true
  passes_numbered first [] all i x at = absurd (cc)
  passes_numbered first (y ∷ xs) all zero x at =
      let same : y ≡ x = cc in
      let here : first ≡ first + 0 = omega arith in
      subst (λ (number : ℕ). test number x ≡ true) here
      (subst (λ (x : X). test first x ≡ true) same
      (and_parts (test first y) (list_all numbered (enumerate_from (first + 1) xs)) all).0)
  passes_numbered first (y ∷ xs) all (suc i) x at =
      let here : first + 1 + i ≡ first + suc i = omega arith in
      subst (λ (number : ℕ). test number x ≡ true) here
      (passes_numbered (first + 1) xs
      (and_parts (test first y) (list_all numbered (enumerate_from (first + 1) xs)) all).1 i x at)

  all_numbered : (first : ℕ) (xs : List X)
      → ((i : ℕ) (x : X) → slice_get xs i ≡ Some x → test (first + i) x ≡ true)
      → list_all numbered (enumerate_from first xs) ≡ true
  all_numbered first [] each = refl
  all_numbered first (y ∷ xs) each =
      and_from (test first y) (list_all numbered (enumerate_from (first + 1) xs))
      (let here : first + 0 ≡ first = omega arith in
      subst (λ (number : ℕ). test number y ≡ true) here (each 0 y refl))
      (all_numbered (first + 1) xs (λ i x at.
      let here : first + suc i ≡ first + 1 + i = omega arith in
      subst (λ (number : ℕ). test number x ≡ true) here (each (suc i) x at)))

  some_numbered : (first : ℕ) (xs : List X) → list_any numbered (enumerate_from first xs) ≡ true
      → PassesAt first xs
  some_numbered first [] some = absurd (cc)
  some_numbered first (y ∷ xs) some =
      elim (or_cases (test first y) (list_any numbered (enumerate_from (first + 1) xs)) some) [
        | inl here ↦ let same : first ≡ first + 0 = omega arith in record {
          place = 0;
          item = y;
          at = refl;
          passes = subst (λ (number : ℕ). test number y ≡ true) same here;
        }
        | inr later ↦ let rest : PassesAt (first + 1) xs = some_numbered (first + 1) xs later in
            let same : first + 1 + rest.place ≡ first + suc rest.place = omega arith in record {
              place = suc rest.place;
              item = rest.item;
              at = rest.at;
              passes = subst (λ (number : ℕ). test number rest.item ≡ true) same rest.passes;
            }
      ]

  any_numbered : (first : ℕ) (xs : List X) (i : ℕ) (x : X) → slice_get xs i ≡ Some x
      → test (first + i) x ≡ true → list_any numbered (enumerate_from first xs) ≡ true
  any_numbered first [] i x at passes = absurd (cc)
  any_numbered first (y ∷ xs) zero x at passes =
      or_left (test first y) (list_any numbered (enumerate_from (first + 1) xs))
      (let same : y ≡ x = cc in
      let here : first + 0 ≡ first = omega arith in
      subst (λ (number : ℕ). test number y ≡ true) here
      (subst (λ (x : X). test (first + 0) x ≡ true) (sym same) passes))
  any_numbered first (y ∷ xs) (suc i) x at passes =
      or_right (test first y) (list_any numbered (enumerate_from (first + 1) xs))
      (any_numbered (first + 1) xs i x at
      (let here : first + suc i ≡ first + 1 + i = omega arith in
      subst (λ (number : ℕ). test number x ≡ true) here passes))

  -- so it is where the first number is 0
  pub passes_from_0 : (xs : List X) → list_all numbered (enumerate_from 0 xs) ≡ true → (i : ℕ)
      (x : X) → slice_get xs i ≡ Some x → test i x ≡ true
  passes_from_0 xs all i x at =
      let here : 0 + i ≡ i = omega arith in
      subst (λ (number : ℕ). test number x ≡ true) here (passes_numbered 0 xs all i x at)

  pub all_from_0 : (xs : List X)
      → ((i : ℕ) (x : X) → slice_get xs i ≡ Some x → test i x ≡ true)
      → list_all numbered (enumerate_from 0 xs) ≡ true
  all_from_0 xs each = all_numbered 0 xs (λ i x at.
      let here : i ≡ 0 + i = omega arith in
      subst (λ (number : ℕ). test number x ≡ true) here (each i x at))

  pub some_from_0 : (xs : List X) → list_any numbered (enumerate_from 0 xs) ≡ true
      → (i : ℕ) × (x : X) × (slice_get xs i ≡ Some x) × (test i x ≡ true)
  some_from_0 xs some =
      let found : PassesAt 0 xs = some_numbered 0 xs some in
      let here : 0 + found.place ≡ found.place = omega arith in (
        found.place,
        found.item,
        found.at,
        subst (λ (number : ℕ). test number found.item ≡ true) here found.passes,
      )

  pub any_from_0 : (xs : List X) (i : ℕ) (x : X) → slice_get xs i ≡ Some x → test i x ≡ true
      → list_any numbered (enumerate_from 0 xs) ≡ true
  any_from_0 xs i x at passes = any_numbered 0 xs i x at
      (let here : i ≡ 0 + i = omega arith in
      subst (λ (number : ℕ). test number x ≡ true) here passes)
