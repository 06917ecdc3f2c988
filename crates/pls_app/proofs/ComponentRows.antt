-- What is counted of a component, node by node.
use Rattle.std.proofs.Common.{◌≡◌, ◌∙◌, ℕ, ◌+◌, ◌<◌, ◌≤◌, ◌^◌, Bool, true, false, cond, List, [], ◌∷◌, All, length, take, get_or, Some, slice_get, count_by, ap, arith}
use Rattle.std.proofs.lemmas.List.{length-take}
use Rattle.std.proofs.lemmas.List.Elements.{All-take}
use Rattle.std.proofs.lemmas.List.Sums.{count_by-le-length, sum_by-append, sum_by-cons}
use Rattle.std.proofs.lemmas.Option.{slice_get-get_or}
use Rattle.pls_configuration.specs.declared.row.NodeRow.{NodeRow}
use Rattle.pls_configuration.specs.Configuration.{IsNetwork}
use Rattle.pls_components.specs.Components.{IsComponent, items_at}
use Rattle.pls_components.proofs.Items.{items-more, length-items, rising-few}
use Rattle.pls_components.proofs.Part.{places_within}

-- of the items at some places, one place more has one item more
pub count_more : {X : Type 0} (p : X → Bool) (xs : List X) (places : List ℕ) (i d : ℕ) (x : X)
    → i < length places → slice_get xs (get_or places i d) ≡ Some x
    → count_by p (items_at xs (take (i + 1) places))
    ≡ count_by p (items_at xs (take i places)) + cond (p x) 1 0
count_more {X} p xs places i d x within at =
    let one : X → ℕ = λ y. cond (p y) 1 0 in
    let before : List X = items_at xs (take i places) in
    let last = sum_by-cons one x [] in
    let both = sum_by-append one before (x ∷ []) in
    ap (count_by p) (items-more xs places i d x within at) ∙ omega (arith, last, both)

-- no more are counted than there are places
pub count_few : {X : Type 0} (p : X → Bool) (xs : List X) (places : List ℕ)
    → All (λ place. place < length xs) places
    → count_by p (items_at xs places) ≤ length places
count_few p xs places within =
    omega (arith, count_by-le-length p (items_at xs places), length-items xs places within)

-- of the first so many places at most so many are counted, and one more counts at most one
pub count_front : {X : Type 0} (p : X → Bool) (xs : List X) (places : List ℕ) (i : ℕ) (x : X)
    → All (λ place. place < length xs) places
    → count_by p (items_at xs (take i places)) + cond (p x) 1 0 ≤ i + 1
count_front p xs places i x within =
    omega (
      arith,
      count_few p xs (take i places) (All-take (λ place. place < length xs) i places within),
      length-take i places,
      one (p x),
    )
  where
    one : (b : Bool) → cond b 1 0 ≤ 1
    one true = omega arith
    one false = omega arith

-- what becomes of the node at a place of a list of places
pub outcome_at : {X : Type 0} (xs : List X) (places : List ℕ) (i : ℕ) (d : X)
    → All (λ place. place < length xs) places → i < length places
    → slice_get xs (get_or places i 0) ≡ Some (get_or xs (get_or places i 0) d)
outcome_at xs places i d within inside =
    slice_get-get_or xs (get_or places i 0) d (within i 0 inside)

-- a component has few places
pub few_places : (rows : List NodeRow) (places : List ℕ) → IsNetwork rows → IsComponent rows places
    → length places < 2 ^ 32
few_places rows places net is =
    omega (
      arith,
      net.limits.few_nodes,
      rising-few (length rows) 0 places is.rising (λ k d within. omega arith)
          (places_within rows net places is) (omega arith),
    )
