-- Sums over lists: term by term, in either order, and of what one item alone adds.
use Rattle.std.proofs.Common.{◌≡◌, ◌≢◌, ◌∙◌, ℕ, suc, ◌+◌, ◌==◌, inl, inr, Bool, true, false, List, [], ◌∷◌, map, length, Contains, get_or, refl, sym, ap, arith, slice_get, Some}
use Rattle.std.specs.List.{AllPairs, filter, sum_by}
use Rattle.std.proofs.lemmas.Bool.{cases_eq, eq-eqb, eqb-true, ne_eqb}
use Rattle.std.proofs.lemmas.List.Sums.{sum_by-cons}
use Rattle.std.proofs.lemmas.Option.{get_or_from_slice_get, slice_get_within}
use Rattle.pls_graph.proofs.Members.{Contains-cons_cases, Contains-first, Contains-later, place_from_Contains}

-- the number where the test passes, else 0
abbrev pub when : Bool → ℕ → ℕ
when true number = number
when false number = 0

pub when-zero : (b : Bool) → when b 0 ≡ 0
when-zero true = refl
when-zero false = refl

pub when-add : (b : Bool) (n m : ℕ) → when b (n + m) ≡ when b n + when b m
when-add true n m = refl
when-add false n m = refl

pub when-swap : (a b : Bool) (n : ℕ) → when a (when b n) ≡ when b (when a n)
when-swap true b n = refl
when-swap false b n = sym (when-zero b)

-- where the test passes the number is 0, so it is 0
pub when-none : (b : Bool) (n : ℕ) → (b ≡ true → n ≡ 0) → when b n ≡ 0
when-none true n none = none refl
when-none false n none = refl

-- numbers that are equal where the test passes
pub when-same : (b : Bool) (n m : ℕ) → (b ≡ true → n ≡ m) → when b n ≡ when b m
when-same true n m same = same refl
when-same false n m same = refl

pub eqb_turned : (a b : ℕ) → (a == b) ≡ (b == a)
eqb_turned a b = elim (cases_eq a b) [
  | inl same ↦ eq-eqb a b same ∙ sym (eq-eqb b a (sym same))
  | inr apart ↦ ne_eqb a b apart ∙ sym (ne_eqb b a (λ same. apart (sym same)))
]

module _ {X : Type 0} where
  -- each item differs in its key from those behind it
  abbrev pub AreApart : (X → ℕ) → List X → Type 0
  AreApart key [] = Unit {0}
  AreApart key (x ∷ xs) = ((y : X) → Contains xs y → key y ≢ key x) × AreApart key xs

  pub AreApart-from_pairs : (key : X → ℕ) (xs : List X) → AllPairs (λ x y. key x ≢ key y) xs
      → AreApart key xs
  AreApart-from_pairs key [] apart = tt
  AreApart-from_pairs key (x ∷ xs) apart = (
    λ y in' same.
        let (k, at) : (k : ℕ) × (slice_get xs k ≡ Some y) = place_from_Contains xs y in' in
        let is : get_or xs k x ≡ y = get_or_from_slice_get xs k y x at in
        apart 0 (suc k) x (omega arith) (omega (arith, slice_get_within xs k y at))
        (sym same ∙ ap key (sym is)),
    AreApart-from_pairs key xs (λ i j d before within. apart (suc i) (suc j) d (omega (arith, before))
        (omega (arith, within))),
  )

  -- sums of equal terms
  pub sum-same : (f g : X → ℕ) (xs : List X) → ((x : X) → Contains xs x → f x ≡ g x)
      → sum_by f xs ≡ sum_by g xs
  sum-same f g [] same = refl
  sum-same f g (x ∷ xs) same =
      let first = same x (Contains-first x xs) in
      let others = sum-same f g xs (λ y in'. same y (Contains-later x xs y in')) in
      omega (arith, first, others, sum_by-cons f x xs, sum_by-cons g x xs)

  pub sum-add : (f g : X → ℕ) (xs : List X)
      → sum_by (λ x. f x + g x) xs ≡ sum_by f xs + sum_by g xs
  sum-add f g [] = refl
  sum-add f g (x ∷ xs) =
      omega (
        arith,
        sum-add f g xs,
        sum_by-cons f x xs,
        sum_by-cons g x xs,
        sum_by-cons (λ (x : X). f x + g x) x xs,
      )

  pub sum-zero : (f : X → ℕ) (xs : List X) → ((x : X) → Contains xs x → f x ≡ 0)
      → sum_by f xs ≡ 0
  sum-zero f [] none = refl
  sum-zero f (x ∷ xs) none =
      let first = none x (Contains-first x xs) in
      let others = sum-zero f xs (λ y in'. none y (Contains-later x xs y in')) in
      omega (arith, first, others, sum_by-cons f x xs)

  pub sum-one : (xs : List X) → sum_by (λ x. 1) xs ≡ length xs
  sum-one [] = refl
  sum-one (x ∷ xs) = omega (arith, sum-one xs, sum_by-cons (λ (x : X). 1) x xs)

  pub sum-when : (b : Bool) (f : X → ℕ) (xs : List X)
      → sum_by (λ x. when b (f x)) xs ≡ when b (sum_by f xs)
  sum-when true f xs = refl
  sum-when false f xs = sum-zero (λ (x : X). 0) xs (λ x in'. refl)

  -- of the items that pass
  pub sum-filter : (p : X → Bool) (f : X → ℕ) (xs : List X)
      → sum_by f (filter p xs) ≡ sum_by (λ x. when (p x) (f x)) xs
  sum-filter p f [] = refl
  sum-filter p f (x ∷ xs) =
      by (p x) refl (sum-filter p f xs) (sum_by-cons (λ (x : X). when (p x) (f x)) x xs)
    where
      by : (b : Bool) → p x ≡ b
          → sum_by f (filter p xs) ≡ sum_by (λ x. when (p x) (f x)) xs
          → sum_by (λ x. when (p x) (f x)) (x ∷ xs)
          ≡ when (p x) (f x) + sum_by (λ x. when (p x) (f x)) xs
          → sum_by f (filter p (x ∷ xs)) ≡ sum_by (λ x. when (p x) (f x)) (x ∷ xs)
      by true is rest head =
          let here : filter p (x ∷ xs) ≡ x ∷ filter p xs = rw is refl in
          let term : when (p x) (f x) ≡ f x = rw is refl in
          ap (sum_by f) here ∙ omega (arith, rest, head, term, sum_by-cons f x (filter p xs))
      by false is rest head =
          let here : filter p (x ∷ xs) ≡ filter p xs = rw is refl in
          let term : when (p x) (f x) ≡ 0 = rw is refl in
          ap (sum_by f) here ∙ omega (arith, rest, head, term)

  -- of items that differ in their keys, the one with this key alone
  pub sum-at : (key f : X → ℕ) (xs : List X) → AreApart key xs → (x : X) → Contains xs x
      → sum_by (λ y. when (key y == key x) (f y)) xs ≡ f x
  sum-at key f [] apart x in' = absurd (omega (arith, in'.1))
  sum-at key f (y ∷ ys) apart x in' = elim (Contains-cons_cases y ys x in') [
    | inl same ↦
        let one : when (key y == key x) (f y) ≡ f x =
        rw (ap key same, eq-eqb (key x) (key x) refl) (ap f same) in
        let none : sum_by (λ y. when (key y == key x) (f y)) ys ≡ 0 =
        sum-zero (λ y. when (key y == key x) (f y)) ys
        (λ z z_in. when-none (key z == key x) (f z) (λ is.
        absurd (apart.0 z z_in (eqb-true (key z) (key x) is ∙ ap key (sym same))))) in
        omega (arith, one, none, sum_by-cons (λ (y : X). when (key y == key x) (f y)) y ys)
    | inr later ↦
        let none : when (key y == key x) (f y) ≡ 0 =
        when-none (key y == key x) (f y) (λ is.
        absurd (apart.0 x later (sym (eqb-true (key y) (key x) is)))) in
        let rest = sum-at key f ys apart.1 x later in
        omega (arith, none, rest, sum_by-cons (λ (y : X). when (key y == key x) (f y)) y ys)
  ]

-- a sum of sums, in the other order
pub sum-swap : {X Y : Type 0} (f : X → Y → ℕ) (xs : List X) (ys : List Y)
    → sum_by (λ x. sum_by (f x) ys) xs ≡ sum_by (λ y. sum_by (λ x. f x y) xs) ys
sum-swap {X} {Y} f [] ys = sym (sum-zero (λ (y : Y). 0) ys (λ y in'. refl))
sum-swap {X} {Y} f (x ∷ xs) ys =
    let head = sum_by-cons (λ (x : X). sum_by (f x) ys) x xs in
    let rest = sum-swap f xs ys in
    let each = sum-same (λ (y : Y). sum_by (λ (x : X). f x y) (x ∷ xs))
    (λ (y : Y). f x y + sum_by (λ (x : X). f x y) xs) ys
    (λ y in'. sum_by-cons (λ (x : X). f x y) x xs) in
    let both = sum-add (f x) (λ (y : Y). sum_by (λ (x : X). f x y) xs) ys in
    omega (arith, head, rest, each, both)

pub sum-map : {X Y : Type 0} (h : X → Y) (f : Y → ℕ) (xs : List X)
    → sum_by f (map h xs) ≡ sum_by (λ x. f (h x)) xs
sum-map h f [] = refl
sum-map {X} {Y} h f (x ∷ xs) =
    omega (
      arith,
      sum-map h f xs,
      sum_by-cons f (h x) (map h xs),
      sum_by-cons (λ (x : X). f (h x)) x xs,
    )

-- distinct numbers are as many as others that are the same
pub same_many : (xs ys : List ℕ) → AreApart (λ x. x) xs → AreApart (λ y. y) ys
    → ((x : ℕ) → Contains xs x → Contains ys x) → ((y : ℕ) → Contains ys y → Contains xs y)
    → length xs ≡ length ys
same_many xs ys xs_apart ys_apart there back =
    let one = sum-one xs in
    let two = sum-one ys in
    let left : sum_by (λ x. 1) xs ≡ sum_by (λ x. sum_by (λ y. when (y == x) 1) ys) xs =
    sum-same (λ x. 1) (λ x. sum_by (λ y. when (y == x) 1) ys) xs
    (λ x in'. sym (sum-at (λ y. y) (λ y. 1) ys ys_apart x (there x in'))) in
    let right : sum_by (λ y. sum_by (λ x. when (y == x) 1) xs) ys ≡ sum_by (λ y. 1) ys =
    sum-same (λ y. sum_by (λ x. when (y == x) 1) xs) (λ y. 1) ys
    (λ y in'. sum-same (λ x. when (y == x) 1) (λ x. when (x == y) 1) xs
    (λ x x_in. ap (λ (b : Bool). when b 1) (eqb_turned y x))
    ∙ sum-at (λ x. x) (λ x. 1) xs xs_apart y (back y in')) in
    sym one ∙ left ∙ sum-swap (λ x y. when (y == x) 1) xs ys ∙ right ∙ two
