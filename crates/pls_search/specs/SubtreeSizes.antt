-- How many places' chains of parents meet each place.
use Rattle.std.specs.Prelude.{◌≡◌, ℕ, ◌<◌, List, length, slice_get, Option, Some}
use Rattle.pls_facts.specs.Parents.{AreSoMany, ChainMeets}

-- the list gives a place this one as its parent
abbrev pub HasParentAt : List (Option ℕ) → ℕ → ℕ → Type 0
HasParentAt parents place parent = slice_get parents place ≡ Some (Some parent)

-- each parent is a place of the list
abbrev pub AreParentsWithin : List (Option ℕ) → Type 0
AreParentsWithin parents =
    (place parent : ℕ) → HasParentAt parents place parent → parent < length parents

-- for each place, in their order, the number of places whose chain of parents meets it
pub record AreSubtreeSizes (parents : List (Option ℕ)) (sizes : List ℕ) : Type 0 where
  pub each : length sizes ≡ length parents
  pub size : (place size : ℕ) → slice_get sizes place ≡ Some size → AreSoMany
      (λ other. (other < length parents) × ChainMeets (HasParentAt parents) other place) size
