-- What a level says of each node, and which pointers its edges join.
use Rattle.std.specs.Prelude.{◌≡◌, ◌≢◌, ℕ, ◌<◌, ◌⊎◌, ◌↔◌, Bool, true, false, List, length, map, Option, Some, None, slice_get, slice_index_or}
use Rattle.std.specs.List.{range_with_len}
use Rattle.pls_configuration.specs.declared.row.NodeRow.{NodeRow}
use Rattle.pls_boruvka.specs.declared.choice.Choice.{Choice}
use Rattle.pls_boruvka.specs.declared.joining.ChosenEnd.{ChosenEnd}
use Rattle.pls_boruvka.specs.declared.level.Level.{Level}
use Rattle.pls_boruvka.specs.Boruvka.{chosen_edge}
use Rattle.pls_boruvka.specs.inner.Choices.{edge_of, top_at}
use Rattle.pls_boruvka.specs.inner.Tops.{Each}

-- what the level says of the nodes of a fragment, by its top and by the edge that was found for it
pub record IsChosen (rows : List NodeRow) (top : ℕ) (choice : Option Choice) (chosen : ChosenEnd)
    : Type 0 where
  pub first : Choice
  pub is : choice ≡ Some first
  pub child : first.child ≡ Some chosen.child
  pub edge : chosen_edge chosen.level ≡ edge_of first
  pub name : (row : NodeRow) → slice_get rows top ≡ Some row → chosen.level.fragment ≡ row.id

-- no edge was found, or one that no pointer lies on
abbrev pub IsUnpointed : Option Choice → Type 0
IsUnpointed choice =
    (choice ≡ None) ⊎ ((first : Choice) × (choice ≡ Some first) × (first.child ≡ None))

-- what was found for the fragment of a place
abbrev pub choice_of_place : List ℕ → List (Option Choice) → ℕ → Option Choice
choice_of_place tops choices place = slice_index_or choices (top_at tops place) None

-- what the level says of each node
pub record AreChosen (rows : List NodeRow) (tops : List ℕ) (choices : List (Option Choice))
    (all : List ChosenEnd) : Type 0 where
  pub each : length all ≡ length rows
  pub chosen :
      Each (λ place. IsChosen rows (top_at tops place) (choice_of_place tops choices place)) all

-- for some place no pointed edge was found
abbrev pub SomeUnpointed : List ℕ → List (Option Choice) → Type 0
SomeUnpointed tops choices =
    (place : ℕ) × (place < length tops) × IsUnpointed (choice_of_place tops choices place)

-- the children of chosen edges are places
abbrev pub AreChildrenWithin : ℕ → List ChosenEnd → Type 0
AreChildrenWithin size all = Each (λ place one. one.child < size) all

-- a place is the child of one of the first edges that were chosen
abbrev pub IsChild : List ChosenEnd → ℕ → ℕ → Type 0
IsChild all count child = (place : ℕ) × (one : ChosenEnd) × (place < count)
    × (slice_get all place ≡ Some one) × (one.child ≡ child)

-- those places are joined that were before, and the children of the first edges that were chosen
pub record JoinChildren (all : List ChosenEnd) (count : ℕ) (old new : List Bool) : Type 0 where
  pub each : length new ≡ length old
  pub joined : (place : ℕ) → (slice_index_or new place false ≡ true)
      ↔ ((slice_index_or old place false ≡ true) ⊎ IsChild all count place)

-- what stands behind the last place
abbrev pub no_chosen : ChosenEnd
no_chosen = record { level = record { fragment = 0; weight = 0; a = 0; b = 0 }; child = 0 }

-- the levels of the node at a place
abbrev pub said_at : List (List ChosenEnd) → ℕ → List Level
said_at rounds place = map (λ all. (slice_index_or all place no_chosen).level) rounds

-- the levels of each node, of so many
abbrev pub levels_said : List (List ChosenEnd) → ℕ → List (List Level)
levels_said rounds count = map (said_at rounds) (range_with_len 0 count)

-- all tops are the same
abbrev pub AreOne : List ℕ → Type 0
AreOne tops = (place : ℕ) → place < length tops → top_at tops place ≡ top_at tops 0

-- one is another than the first
abbrev pub SomeApart : List ℕ → Type 0
SomeApart tops = (place : ℕ) × (place < length tops) × (top_at tops place ≢ top_at tops 0)
