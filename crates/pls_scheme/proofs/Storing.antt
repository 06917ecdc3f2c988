-- Labels that are put into a store one after the other.
use Rattle.std.proofs.Common.{◌≡◌, ◌≢◌, ◌<◌, ◌+◌, ◌∙◌, ℕ, List, [], Bool, Some, length, set, sym, ap, inl, inr, arith, slice_get}
use Rattle.std.proofs.lemmas.Bool.{cases_lt}
use Rattle.std.proofs.lemmas.List.{get_or-set_other, get_or-set_same, length-set}
use Rattle.std.proofs.lemmas.Option.{same_Some, slice_get-get_or}

-- the labels before a place are right
abbrev pub AreRightBefore : {X : Type 0} → (X → List Bool → Type 0) → List X → List (List Bool) → ℕ
    → Type 0
AreRightBefore {X} right items labels i =
    (place : ℕ) (item : X) (bits : List Bool) → place < i → slice_get items place ≡ Some item
    → slice_get labels place ≡ Some bits → right item bits

-- one more is
pub right_more : {X : Type 0} (right : X → List Bool → Type 0) (items : List X)
    (old : List (List Bool)) (i : ℕ) (new : List Bool) → length old ≡ length items
    → i < length items → ((item : X) → slice_get items i ≡ Some item → right item new)
    → AreRightBefore right items old i → AreRightBefore right items (set old i new) (i + 1)
right_more right items old i new each within is before place item bits below at stored =
    let long = length-set old i new in
    let read = slice_get-get_or (set old i new) place [] (omega (arith, long, each, within, below)) in
    elim (cases_lt place i) [
      | inl less ↦
          let other : place ≢ i = λ same. absurd (omega (arith, less, same)) in
          before place item bits less at
          (slice_get-get_or old place [] (omega (arith, each, within, less))
          ∙ ap Some (sym (get_or-set_other old i place new [] other)) ∙ sym read ∙ stored)
      | inr past ↦
          let here : place ≡ i = omega (arith, past, below) in
          let mine : bits ≡ new =
          sym (same_Some _ _ (sym read ∙ stored))
          ∙ rw here (get_or-set_same old i new [] (omega (arith, each, within))) in
          rw mine (is item (rw here at at))
    ]
