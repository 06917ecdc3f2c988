-- What a pass over places has handed on to their parents so far.
use Rattle.std.specs.Prelude.{◌≡◌, ℕ, zero, suc, ◌+◌, ◌<◌, ◌≤◌, nat_lt, nat_le, ◌==◌, Bool, true, List, [], ◌∷◌, length, sum_by, slice_index_or, Option, None}
use Rattle.pls_facts.specs.Parents.{AreSoMany, ChainMeets}
use Rattle.pls_facts.proofs.ParentLines.{is_child}
use Rattle.pls_facts.proofs.Sums.{when}
use Rattle.pls_search.specs.SubtreeSizes.{HasParentAt}

-- the places below a number
abbrev pub below : ℕ → List ℕ
below zero = []
below (suc count) = count ∷ below count

-- the parent of a place
abbrev pub parent_of : List (Option ℕ) → ℕ → Option ℕ
parent_of parents place = slice_index_or parents place None

-- the number at a place
abbrev pub number_at : List ℕ → ℕ → ℕ
number_at numbers place = slice_index_or numbers place 0

-- what those of some places have together that pass a test and have this one as their parent
abbrev pub from_children : List (Option ℕ) → List ℕ → (ℕ → Bool) → (ℕ → ℕ) → ℕ → ℕ
from_children parents places test number place =
    sum_by (λ child. when (is_child (parent_of parents) place child)
    (when (test child) (number child))) places

-- the numbers of places whose chains meet each place
pub record AreTotals (parents : List (Option ℕ)) (total : ℕ → ℕ) : Type 0 where
  pub sums : (place : ℕ) → place < length parents → total place
      ≡ 1 + from_children parents (below (length parents)) (λ child. true) total place
  pub few : (place : ℕ) → total place ≤ length parents
  pub many : (place : ℕ) → AreSoMany
      (λ other. (other < length parents) × ChainMeets (HasParentAt parents) other place)
      (total place)

-- each place waits for as many as it is still owed, and for its children that wait themselves; what
-- it has together with what the children that wait are going to bring is its total
pub record IsPassing (parents : List (Option ℕ)) (owed : ℕ → ℕ) (waits sizes : List ℕ)
    : Type 0 where
  pub total : ℕ → ℕ
  pub totals : AreTotals parents total
  pub waits_each : length waits ≡ length parents
  pub sizes_each : length sizes ≡ length parents
  pub sized : (place : ℕ) → place < length parents → number_at sizes place
      + from_children parents (below (length parents)) (λ child. nat_lt 0 (number_at waits child))
      total place ≡ total place
  pub waited : (place : ℕ) → place < length parents → number_at waits place ≡ owed place
      + from_children parents (below (length parents)) (λ child. nat_lt 0 (number_at waits child))
      (λ child. 1) place

-- the places from one on are owed one visit each
abbrev pub visits_from : ℕ → ℕ → ℕ
visits_from first place = when (nat_le first place) 1

-- and one more is owed to one place
abbrev pub and_at : ℕ → (ℕ → ℕ) → ℕ → ℕ
and_at one owed place = owed place + when (place == one) 1

-- each place waits for one visit and for those of the first places that are its children
pub record AreWaits (parents : List (Option ℕ)) (first : ℕ) (waits : List ℕ) : Type 0 where
  pub each : length waits ≡ length parents
  pub is : (place : ℕ) → place < length parents → number_at waits place
      ≡ 1 + from_children parents (below first) (λ child. true) (λ child. 1) place
