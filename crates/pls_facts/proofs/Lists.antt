-- Lists: their items at places, their images, and the items that pass a test.
use Rattle.std.proofs.Common.{◌≡◌, ◌∙◌, ℕ, zero, suc, ◌+◌, ◌<◌, ◌≤◌, inl, inr, Bool, true, false, ◌||◌, List, [], ◌∷◌, ◌++◌, length, map, take, slice_get, get_or, Option, All, Contains, Some, option_map, count_by, cond, refl, sym, ap, arith}
use Rattle.std.specs.List.{AllPairs, filter, list_all, list_any}
use Rattle.std.proofs.lemmas.Bool.{or_cases}
use Rattle.std.proofs.lemmas.List.{map-append, same_lists, take_more}
use Rattle.std.proofs.lemmas.List.Elements.{All-contains, Contains-get_or, filter_passes}
use Rattle.std.proofs.lemmas.List.Kept.{AllPairs-filter}
use Rattle.std.proofs.lemmas.List.Sums.{AllPass-from_list_all, length-filter, list_all-from_AllPass, sum_by-cons}
use Rattle.std.proofs.lemmas.Option.{get_or_from_slice_get, slice_get-get_or, slice_get-map, slice_get_within}
use Rattle.pls_graph.proofs.Members.{Contains-cons_cases, Contains-filter, Contains-first, Contains-later}

module _ {X : Type 0} where
  -- a list that is not empty contains its first item
  pub some_item : (xs : List X) → 1 ≤ length xs → (x : X) × Contains xs x
  some_item [] some = absurd (omega (arith, some))
  some_item (x ∷ xs) some = (x, Contains-first x xs)

  -- lists of one length that agree at each place are one
  pub same_at_places : (xs ys : List X) → length xs ≡ length ys
      → ((place : ℕ) (x y : X) → slice_get xs place ≡ Some x → slice_get ys place ≡ Some y → x ≡ y)
      → xs ≡ ys
  same_at_places xs ys long agree =
      same_lists xs ys long (λ k d within. agree k (get_or xs k d) (get_or ys k d)
      (slice_get-get_or xs k d within) (slice_get-get_or ys k d (omega (arith, long, within))))

  -- a list of one item at most contains one item at most
  pub only_item : (xs : List X) (x y : X) → length xs ≤ 1 → Contains xs x → Contains xs y → x ≡ y
  only_item [] x y few one other = absurd (omega (arith, one.1))
  only_item (first ∷ []) x y few (zero, within, at) (zero, inside, then) = sym at ∙ then
  only_item (first ∷ []) x y few (suc k, within, at) other = absurd (omega arith)
  only_item (first ∷ []) x y few one (suc k, within, at) = absurd (omega arith)
  only_item (first ∷ second ∷ xs) x y few one other = absurd (omega arith)

  -- where one item at most passes, two that pass are the same
  pub one_passes : (p : X → Bool) (xs : List X) (x y : X) → count_by p xs ≤ 1 → Contains xs x
      → Contains xs y → p x ≡ true → p y ≡ true → x ≡ y
  one_passes p xs x y few one other passes also =
      only_item (filter p xs) x y (omega (arith, length-filter p xs))
      (Contains-filter p xs x one passes) (Contains-filter p xs y other also)

  -- where no two items pass, one at most does
  pub few_pass : (p : X → Bool) (xs : List X)
      → AllPairs (λ x y. p x ≡ true → p y ≡ true → ⊥) xs → count_by p xs ≤ 1
  few_pass p xs apart =
      let few : length (filter p xs) ≤ 1 = by (filter p xs)
      (AllPairs-filter (λ x y. p x ≡ true → p y ≡ true → ⊥) p xs apart) (filter_passes p xs) in
      omega (arith, length-filter p xs)
    where
      by : (ys : List X) → AllPairs (λ x y. p x ≡ true → p y ≡ true → ⊥) ys
          → All (λ x. p x ≡ true) ys → length ys ≤ 1
      by [] apart pass = omega arith
      by (y ∷ []) apart pass = omega arith
      by (y ∷ z ∷ ys) apart pass = absurd (apart 0 1 y (omega arith) (omega arith)
          (pass 0 y (omega arith)) (pass 1 y (omega arith)))

  -- what all items pass, each does, and the other way round
  pub each_passes : (test : X → Bool) (xs : List X) → list_all test xs ≡ true
      → (x : X) → Contains xs x → test x ≡ true
  each_passes test xs all x in' =
      All-contains (λ x. test x ≡ true) xs x (AllPass-from_list_all test xs all) in'

  pub all_pass : (test : X → Bool) (xs : List X) → ((x : X) → Contains xs x → test x ≡ true)
      → list_all test xs ≡ true
  all_pass test xs each = list_all-from_AllPass test xs (λ k d within.
      each (get_or xs k d) (Contains-get_or xs k d within))

  -- where an item passes, some does
  pub any_passes : (p : X → Bool) (xs : List X) (x : X) → Contains xs x → p x ≡ true
      → list_any p xs ≡ true
  any_passes p [] x in' passes = absurd (omega (arith, in'.1))
  any_passes p (first ∷ xs) x in' passes = elim (Contains-cons_cases first xs x in') [
    | inl same ↦ rw (ap p same ∙ passes) refl
    | inr later ↦ or_later (p first) (any_passes p xs x later passes)
  ]
    where
      or_later : (b : Bool) → list_any p xs ≡ true → (b || list_any p xs) ≡ true
      or_later true some = refl
      or_later false some = some

  -- where some item passes, here is one
  pub passes_any : (p : X → Bool) (xs : List X) → list_any p xs ≡ true
      → (x : X) × Contains xs x × (p x ≡ true)
  passes_any p [] some = absurd (cc)
  passes_any p (first ∷ xs) some = elim (or_cases (p first) (list_any p xs) some) [
    | inl here ↦ (first, Contains-first first xs, here)
    | inr later ↦
        let (x, in', passes) : (x : X) × Contains xs x × (p x ≡ true) = passes_any p xs later in
        (x, Contains-later first xs x in', passes)
  ]

  -- one more item is taken
  pub take_one_more : (xs : List X) (i : ℕ) (x : X) (done : List X) → done ≡ take i xs
      → slice_get xs i ≡ Some x → done ++ x ∷ [] ≡ take (i + 1) xs
  take_one_more xs i x done so_far at = rw (
    so_far,
    take_more xs i x (slice_get_within xs i x at),
    get_or_from_slice_get xs i x x at,
  ) refl

module _ {X Y : Type 0} where
  -- one more item is mapped
  pub map-take_more : (f : X → Y) (xs : List X) (i : ℕ) (x : X) (done : List Y) (y : Y)
      → done ≡ map f (take i xs) → slice_get xs i ≡ Some x → y ≡ f x
      → done ++ y ∷ [] ≡ map f (take (i + 1) xs)
  map-take_more f xs i x done y so_far at same =
      let within : i < length xs = slice_get_within xs i x at in
      rw (
        so_far,
        same,
        take_more xs i x within,
        get_or_from_slice_get xs i x x at,
        map-append f (take i xs) (x ∷ []),
      ) refl

  -- an item of a list, where the list is mapped
  pub item_mapped : (f : X → Y) (xs : List X) (i : ℕ) (x : X) → i < length xs
      → x ≡ get_or xs i x → slice_get (map f xs) i ≡ Some (f x)
  item_mapped f xs i x within is =
      slice_get-map f xs i ∙ ap (option_map f) (slice_get-get_or xs i x within ∙ ap Some (sym is))

  -- the images that pass are counted by what they are the images of
  pub count_by-map : (p : Y → Bool) (f : X → Y) (xs : List X)
      → count_by p (map f xs) ≡ count_by (λ x. p (f x)) xs
  count_by-map p f [] = refl
  count_by-map p f (x ∷ xs) =
      let there : Y → ℕ = λ y. cond (p y) 1 0 in
      let here : X → ℕ = λ x. cond (p (f x)) 1 0 in
      sum_by-cons there (f x) (map f xs) ∙ ap (λ (n : ℕ). here x + n) (count_by-map p f xs)
      ∙ sym (sum_by-cons here x xs)

-- what a place gives, where the item there is known
pub given_at : {X Y : Type 0} (f : X → Y) (found : Option X) (x : X) (y : Y)
    → option_map f found ≡ Some y → found ≡ Some x → f x ≡ y
given_at f found x y given is = let shown : Some (f x) ≡ Some y = ap (option_map f) (sym is) ∙ given in cc
