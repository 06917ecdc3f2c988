-- Labels that are put in some places, one after the other.
use Rattle.std.proofs.Common.{◌≡◌, ◌≢◌, ◌∙◌, ℕ, zero, suc, ◌+◌, ◌<◌, ◌≤◌, Bool, List, [], ◌∷◌, ◌++◌, length, drop, take, get_or, set, slice_get, Contains, Some, refl, sym, ap, arith, get_or-take, length-drop, length-take}
use Rattle.std.proofs.lemmas.List.{get_or_default, length-set, take_all, take_more}
use Rattle.std.proofs.lemmas.List.Elements.{Contains-append_left, Contains-push}
use Rattle.std.proofs.lemmas.List.Sums.{sum_by-drop_more}
use Rattle.std.proofs.lemmas.Option.{get_or_from_slice_get, slice_get_within}
use Rattle.pls_configuration.specs.Rising.{IsRising}
use Rattle.pls_labels.specs.Labels.{bits_together}
use Rattle.pls_labels.specs.Stored.{cost}
use Rattle.pls_components.specs.Components.{items_at}
use Rattle.pls_components.specs.inner.Marking.{ArePutAt, room_for}
use Rattle.pls_components.proofs.Items.{items-more}

module _ {X : Type 0} where
  pub set-other : (xs : List X) (i j : ℕ) (y : X) → j ≢ i → slice_get (set xs i y) j ≡ slice_get xs j
  set-other [] i j y apart = refl
  set-other (x ∷ xs) zero zero y apart = absurd (apart refl)
  set-other (x ∷ xs) zero (suc j) y apart = refl
  set-other (x ∷ xs) (suc i) zero y apart = refl
  set-other (x ∷ xs) (suc i) (suc j) y apart = set-other xs i j y (λ e. apart (ap suc e))

  pub set-same : (xs : List X) (i : ℕ) (y : X) → i < length xs → slice_get (set xs i y) i ≡ Some y
  set-same [] i y within = absurd (omega arith)
  set-same (x ∷ xs) zero y within = refl
  set-same (x ∷ xs) (suc i) y within = set-same xs i y (omega arith)

  -- two lists have the same items at some places where they agree at each
  pub items-agree : (xs ys : List X) (places : List ℕ)
      → ((place : ℕ) → Contains places place → slice_get xs place ≡ slice_get ys place)
      → items_at xs places ≡ items_at ys places
  items-agree xs ys [] same = refl
  items-agree xs ys (first ∷ places) same =
      rw (
        same first (0, omega arith, refl),
        items-agree xs ys places
            (λ place in'. same place (suc in'.0, (let i = in'.1 in omega arith), in'.2)),
      ) refl

-- of rising places, an earlier one is below
earlier : (places : List ℕ) → IsRising places → (j d place : ℕ) → j < length places
    → Contains (take j places) place → place < get_or places j d
earlier places rising j d place inside in' =
    let (k, within, at) : (k : ℕ) × (k < length (take j places)) × (get_or (take j places) k place ≡ place) =
    in' in
    let below : k < j = let long = length-take j places in omega arith in
    let same : get_or (take j places) k place ≡ get_or places k place =
    get_or-take j places k place below in
    let less : get_or places k place < get_or places j place = rising k j place below inside in
    let here : get_or places j place ≡ get_or places j d = get_or_default places j place d inside in
    omega arith

-- the first labels are in their places
pub record Putting (places : List ℕ) (put old now : List (List Bool)) (j : ℕ) : Type 0 where
  pub size : length now ≡ length old
  pub others : (place : ℕ) → (Contains (take j places) place → ⊥)
      → slice_get now place ≡ slice_get old place
  pub here : items_at now (take j places) ≡ take j put

pub Putting-first : (places : List ℕ) (put old : List (List Bool)) → Putting places put old old 0
Putting-first places put old = record { size = refl; others = λ place apart. refl; here = refl }

pub Putting-more : (places : List ℕ) (put old now : List (List Bool)) (j place : ℕ)
    (label : List Bool) → IsRising places → j < length places → place ≡ get_or places j place
    → slice_get put j ≡ Some label → place < length now → Putting places put old now j
    → Putting places put old (set now place label) (j + 1)
Putting-more places put old now j place label rising inside is at within so_far = record {
  size = length-set now place label ∙ so_far.size;
  others = λ other apart.
      let differs : other ≢ place =
      λ same. apart (rw (split, same) (Contains-push (take j places) place)) in
      set-other now place other label differs
      ∙ so_far.others other (λ in'. apart (rw split
      (Contains-append_left (take j places) (place ∷ []) other in')));
  here =
      items-more (set now place label) places j place label inside
      (ap (slice_get (set now place label)) (sym is) ∙ set-same now place label within)
      ∙ ap (λ (labels : List (List Bool)). labels ++ label ∷ [])
      (items-agree (set now place label) now (take j places)
      (λ other in'.
      let below = earlier places rising j place other inside in' in
      set-other now place other label (λ same. absurd (omega arith))) ∙ so_far.here)
      ∙ sym (take_more put j label (slice_get_within put j label at)
      ∙ ap (λ (last : List Bool). take j put ++ last ∷ []) (get_or_from_slice_get put j label label at));
}
  where
    split : take (j + 1) places ≡ take j places ++ place ∷ []
    split = take_more places j place inside
        ∙ ap (λ (last : ℕ). take j places ++ last ∷ []) (sym is)

pub ArePutAt-end : (places : List ℕ) (put old now : List (List Bool)) (j : ℕ)
    → length places ≤ j → length put ≡ length places → Putting places put old now j
    → ArePutAt places put old now
ArePutAt-end places put old now j past each so_far = record {
  size = so_far.size;
  others = λ place apart. so_far.others place
      (λ in'. apart (rw (← all) in'));
  here = ap (items_at now) (sym all) ∙ so_far.here ∙ take_all j put (omega arith);
}
  where
    all : take j places ≡ places
    all = take_all j places past

-- where there is room for the labels from one on, there is room for it, and then for those behind
-- it
module _ (put : List (List Bool)) (j : ℕ) (label : List Bool) (at : slice_get put j ≡ Some label)
    (spare : ℕ) (room : room_for (drop j put) ≤ spare) where
  first-bits : bits_together (drop j put) ≡ length label + bits_together (drop (j + 1) put)
  first-bits = sum_by-drop_more (length {A = Bool}) put j label (slice_get_within put j label at)
      ∙ ap (λ (first : List Bool). length first + bits_together (drop (j + 1) put))
      (get_or_from_slice_get put j label label at)

  pub room_for-first : cost (length label) ≤ spare
  room_for-first =
      let inside = slice_get_within put j label at in
      let many = length-drop j put in
      omega (arith, inside, many, first-bits, room)

  pub room_for-others : (after : ℕ) → after + cost (length label) ≡ spare
      → room_for (drop (j + 1) put) ≤ after
  room_for-others after spent =
      let inside = slice_get_within put j label at in
      let many = length-drop j put in
      let fewer = length-drop (j + 1) put in
      omega (arith, inside, many, fewer, first-bits, room, spent)
