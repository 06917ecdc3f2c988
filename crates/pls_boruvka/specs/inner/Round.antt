-- What a level says of each node, kept once for each fragment: fragments have numbers, from 0 on.
use Rattle.std.specs.Prelude.{◌≡◌, ℕ, ◌<◌, ◌⊎◌, All, Contains, List, [], ◌∷◌, ◌++◌, length, map, Option, Some, None, slice_get, slice_index_or}
use Rattle.pls_configuration.specs.declared.row.NodeRow.{NodeRow}
use Rattle.pls_boruvka.specs.declared.choice.Choice.{Choice}
use Rattle.pls_boruvka.specs.declared.joining.ChosenEnd.{ChosenEnd}
use Rattle.pls_boruvka.specs.inner.Chosen.{IsChosen, no_chosen}

-- what is said of nodes whose fragments have these numbers
abbrev pub said_by_number : List ℕ → List ChosenEnd → List ChosenEnd
said_by_number numbers chosen = map (λ number. slice_index_or chosen number no_chosen) numbers

-- the numbers of fragments, of so many, each of which has a node
pub record AreFragmentNumbers (numbers : List ℕ) (count : ℕ) : Type 0 where
  pub within : All (λ number. number < count) numbers
  pub used : (number : ℕ) → number < count → Contains numbers number

-- under this number stands what is said of the fragment with this top
pub record IsFragmentNumber (rows : List NodeRow) (choices : List (Option Choice))
    (chosen : List ChosenEnd) (top number : ℕ) : Type 0 where
  pub within : number < length chosen
  pub right : IsChosen rows top (slice_index_or choices top None)
      (slice_index_or chosen number no_chosen)

-- the numbers that are noted at tops are right
pub record AreNotedNumbers (rows : List NodeRow) (choices : List (Option Choice))
    (chosen : List ChosenEnd) (noted : List (Option ℕ)) : Type 0 where
  pub each : length noted ≡ length rows
  pub number : (top number : ℕ) → slice_get noted top ≡ Some (Some number)
      → IsFragmentNumber rows choices chosen top number

-- the number stands for what was there, or for what was put behind it
abbrev pub IsOldOrNext : List ChosenEnd → List ChosenEnd → ℕ → Type 0
IsOldOrNext old new number = (new ≡ old)
    ⊎ ((one : ChosenEnd) × (new ≡ old ++ one ∷ []) × (number ≡ length old))
