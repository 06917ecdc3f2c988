-- The items at some places of a list.
use Rattle.std.proofs.Common.{◌≡◌, ◌∙◌, ℕ, zero, suc, ◌+◌, ◌<◌, ◌≤◌, List, [], ◌∷◌, ◌++◌, length, map, take, get_or, slice_get, All, Option, Some, None, option_map, refl, sym, ap, arith}
use Rattle.std.specs.List.{cons_option, sum_by}
use Rattle.std.proofs.lemmas.List.{take_more, take-take}
use Rattle.std.proofs.lemmas.List.Elements.{All-cons, All-contains, All-head, All-nil, All-tail, filter_map-append}
use Rattle.std.proofs.lemmas.List.Sums.{sum_by-cons, sum_by-take-le, sum_by_more}
use Rattle.std.proofs.lemmas.Option.{get_or_from_slice_get, same_Some, slice_get-map, slice_get_within}
use Rattle.pls_configuration.specs.Rising.{IsRising}
use Rattle.pls_graph.proofs.Finds.{item_at}
use Rattle.pls_graph.proofs.Members.{Contains-from_place}
use Rattle.pls_components.specs.Components.{items_at}

module _ {X : Type 0} (xs : List X) where
  abbrev Within : ℕ → Type 0
  Within place = place < length xs

  -- there are as many items as places
  pub length-items : (places : List ℕ) → All Within places
      → length (items_at xs places) ≡ length places
  length-items [] within = refl
  length-items (place ∷ places) within =
      let (x, at) : (x : X) × (slice_get xs place ≡ Some x) =
      item_at xs place (All-head Within place places within) in
      rw at (ap suc (length-items places (All-tail Within place places within)))

  -- at each place of the list of places stands the item of that place
  pub items-at : (places : List ℕ) → All Within places → (k place : ℕ)
      → slice_get places k ≡ Some place → slice_get (items_at xs places) k ≡ slice_get xs place
  items-at [] within k place at = absurd (cc)
  items-at (first ∷ places) within zero place at =
      let (x, here) : (x : X) × (slice_get xs first ≡ Some x) =
      item_at xs first (All-head Within first places within) in
      let same : first ≡ place = same_Some first place at in
      let there : Some x ≡ slice_get xs place = sym here ∙ ap (slice_get xs) same in
      rw here there
  items-at (first ∷ places) within (suc k) place at =
      let (x, here) : (x : X) × (slice_get xs first ≡ Some x) =
      item_at xs first (All-head Within first places within) in
      let rest : slice_get (items_at xs places) k ≡ slice_get xs place =
      items-at places (All-tail Within first places within) k place at in
      rw here rest

  -- and each item is that of such a place
  pub from-items : (places : List ℕ) → All Within places → (k : ℕ) (x : X)
      → slice_get (items_at xs places) k ≡ Some x
      → (place : ℕ) × (slice_get places k ≡ Some place) × (slice_get xs place ≡ Some x)
  from-items places within k x at =
      let many = length-items places within in
      let inside : k < length places =
      let i = slice_get_within (items_at xs places) k x at in omega arith in
      let (place, here) : (place : ℕ) × (slice_get places k ≡ Some place) =
      item_at places k inside in
      (place, here, sym (items-at places within k place here) ∙ at)

  -- one place more has one item more
  pub items-more : (places : List ℕ) (i d : ℕ) (x : X) → i < length places
      → slice_get xs (get_or places i d) ≡ Some x
      → items_at xs (take (i + 1) places) ≡ items_at xs (take i places) ++ x ∷ []
  items-more places i d x inside at =
      ap (items_at xs) (take_more places i d inside)
      ∙ filter_map-append (slice_get xs) (take i places) (get_or places i d ∷ [])
      ∙ ap (λ (found : Option X). items_at xs (take i places) ++ cons_option found []) at

  -- what holds of all items of a list holds of those at some places
  pub All-items : (P : X → Type 0) → All P xs → (places : List ℕ) → All P (items_at xs places)
  All-items P all [] = All-nil P
  All-items P all (place ∷ places) = by (slice_get xs place) refl (All-items P all places)
    where
      by : (o : Option X) → slice_get xs place ≡ o → All P (items_at xs places)
          → All P (cons_option o (items_at xs places))
      by None at rest = rest
      by (Some x) at rest = All-cons P x (items_at xs places)
          (All-contains P xs x all (Contains-from_place xs place x at)) rest

-- the images of the items are the items of the images
pub items-map : {X Y : Type 0} (f : X → Y) (xs : List X) (places : List ℕ)
    → items_at (map f xs) places ≡ map f (items_at xs places)
items-map f xs [] = refl
items-map {X} f xs (place ∷ places) =
    rw (slice_get-map f xs place, items-map f xs places) (by (slice_get xs place))
  where
    by : (o : Option X) → cons_option (option_map f o) (map f (items_at xs places))
        ≡ map f (cons_option o (items_at xs places))
    by None = refl
    by (Some x) = refl

-- where numbers rise, those behind the first are above it, and rise
pub rising-head : (first : ℕ) (numbers : List ℕ) → IsRising (first ∷ numbers)
    → All (λ (later : ℕ). first < later) numbers
rising-head first numbers rising = λ k d inside. rising 0 (suc k) d (omega arith) (omega arith)

pub rising-tail : (first : ℕ) (numbers : List ℕ) → IsRising (first ∷ numbers) → IsRising numbers
rising-tail first numbers rising = λ i j d less inside.
    rising (suc i) (suc j) d (omega arith) (omega arith)

above : (first : ℕ) (numbers : List ℕ) → IsRising (first ∷ numbers)
    → All (λ (later : ℕ). first + 1 ≤ later) numbers
above first numbers rising = λ k d inside.
    let less = rising-head first numbers rising k d inside in omega arith

-- there are no more rising numbers between two than numbers between them
pub rising-few : (n base : ℕ) (numbers : List ℕ) → IsRising numbers
    → All (λ (number : ℕ). base ≤ number) numbers → All (λ (number : ℕ). number < n) numbers
    → base ≤ n → length numbers + base ≤ n
rising-few n base [] rising from within fits = omega arith
rising-few n base (first ∷ numbers) rising from within fits =
    let low : base ≤ first = All-head (λ (number : ℕ). base ≤ number) first numbers from in
    let high : first < n = All-head (λ (number : ℕ). number < n) first numbers within in
    let rest : length numbers + (first + 1) ≤ n =
    rising-few n (first + 1) numbers (rising-tail first numbers rising) (above first numbers rising)
    (All-tail (λ (number : ℕ). number < n) first numbers within) (omega arith) in
    omega arith

-- the sum over the items at rising places is at most the sum over all
pub items-sum : {X : Type 0} (f : X → ℕ) (xs : List X) (base : ℕ) (places : List ℕ)
    → IsRising places → All (λ (place : ℕ). base ≤ place) places
    → All (λ (place : ℕ). place < length xs) places
    → sum_by f (items_at xs places) + sum_by f (take base xs) ≤ sum_by f xs
items-sum f xs base [] rising from within = omega (arith, sum_by-take-le f xs base)
items-sum {X} f xs base (first ∷ places) rising from within =
    let low : base ≤ first = All-head (λ (place : ℕ). base ≤ place) first places from in
    let inside : first < length xs =
    All-head (λ (place : ℕ). place < length xs) first places within in
    let (x, at) : (x : X) × (slice_get xs first ≡ Some x) = item_at xs first inside in
    let rest : sum_by f (items_at xs places) + sum_by f (take (first + 1) xs) ≤ sum_by f xs =
    items-sum f xs (first + 1) places (rising-tail first places rising) (above first places rising)
    (All-tail (λ (place : ℕ). place < length xs) first places within) in
    let more : sum_by f (take (first + 1) xs) ≡ sum_by f (take first xs) + f (get_or xs first x) =
    sum_by_more f xs first x inside in
    let same : f (get_or xs first x) ≡ f x = ap f (get_or_from_slice_get xs first x x at) in
    let less : sum_by f (take base (take first xs)) ≤ sum_by f (take first xs) =
    sum_by-take-le f (take first xs) base in
    let front : sum_by f (take base (take first xs)) ≡ sum_by f (take base xs) =
    ap (sum_by f) (take-take base first xs low) in
    let one : sum_by f (x ∷ items_at xs places) ≡ f x + sum_by f (items_at xs places) =
    sum_by-cons f x (items_at xs places) in
    let all : sum_by f (x ∷ items_at xs places) + sum_by f (take base xs) ≤ sum_by f xs = omega arith in
    rw at all
