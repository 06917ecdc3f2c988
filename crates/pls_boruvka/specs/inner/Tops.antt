-- The places where chains of joined pointers end.
use Rattle.std.specs.Prelude.{◌≡◌, ℕ, ◌+◌, ◌<◌, ◌≤◌, Bool, false, if◌then◌else◌, IfSome, List, length, Option, Some, None, slice_get, slice_index_or}
use Rattle.pls_configuration.specs.declared.row.NodeRow.{NodeRow}
use Rattle.pls_configuration.specs.WalkBy.{WalkBy}
use Rattle.pls_search.specs.PointedPlace.{PointsTo}

-- what stands at each place of a list is right for that place
abbrev pub Each : {X : Type 0} → (ℕ → X → Type 0) → List X → Type 0
Each {X} Right xs = (place : ℕ) (x : X) → slice_get xs place ≡ Some x → Right place x

-- the place that the node at a place points at
pub record IsParentPlace (rows : List NodeRow) (place : ℕ) (parent : Option ℕ) : Type 0 where
  pub points : PointsTo rows place parent
  pub within : IfSome parent (λ to. to < length rows)

-- for each place the place that its node points at
pub record AreParents (rows : List NodeRow) (parents : List (Option ℕ)) : Type 0 where
  pub each : length parents ≡ length rows
  pub parent : Each (IsParentPlace rows) parents

-- the parent of a place
abbrev pub parent_at : List (Option ℕ) → ℕ → Option ℕ
parent_at parents place = slice_index_or parents place None

-- some depth falls by one from each place to its parent, which is a place too
pub record HasDepths (parents : List (Option ℕ)) : Type 0 where
  pub depth : ℕ → ℕ
  pub falls : (place to : ℕ) → place < length parents → parent_at parents place ≡ Some to
      → (to < length parents) × (depth place ≡ depth to + 1)
  pub few : (place : ℕ) → place < length parents → depth place ≤ length parents

-- the parent of a place, where the place is joined to it
abbrev pub joined_parent : List (Option ℕ) → List Bool → ℕ → Option ℕ
joined_parent parents joined place =
    if slice_index_or joined place false then parent_at parents place else None

-- the chain of joined parents of a place ends at this one
pub record IsTop (parents : List (Option ℕ)) (joined : List Bool) (place top : ℕ) : Type 0 where
  pub nodes : List ℕ
  pub chain : WalkBy (λ one other. joined_parent parents joined one ≡ Some other) place nodes top
  pub ends : joined_parent parents joined top ≡ None
  pub inside : top < length parents

-- for each place its top
pub record AreTops (parents : List (Option ℕ)) (joined : List Bool) (tops : List ℕ) : Type 0 where
  pub each : length tops ≡ length parents
  pub top : Each (IsTop parents joined) tops

-- what is noted so far, for some of the places, is right
pub record AreNotedTops (parents : List (Option ℕ)) (joined : List Bool) (noted : List (Option ℕ))
    : Type 0 where
  pub each : length noted ≡ length parents
  pub top : (place top : ℕ) → slice_get noted place ≡ Some (Some top)
      → IsTop parents joined place top
