-- What a walk along chains of pointers has noted so far.
use Rattle.std.specs.Prelude.{◌≡◌, ◌⊎◌, ℕ, List, length, slice_index_or, Option, Some, None}
use Rattle.pls_configuration.specs.declared.row.NodeRow.{NodeRow}
use Rattle.pls_search.specs.inner.ChainLengths.{IsDepth}
use Rattle.pls_search.specs.PointedPlace.{PointsTo}

-- so many pointers are noted for the chain of the node at a place
abbrev pub IsNoted : List (Option ℕ) → ℕ → ℕ → Type 0
IsNoted noted place count = slice_index_or noted place None ≡ Some count

-- what is noted so far, for some of the places, is right
pub record AreNoted (rows : List NodeRow) (noted : List (Option ℕ)) : Type 0 where
  pub each : length noted ≡ length rows
  pub depth : (place count : ℕ) → IsNoted noted place count → IsDepth rows place count

-- the node at a place points at none, or at one that is noted
abbrev pub LeadsToNoted : List NodeRow → List (Option ℕ) → ℕ → Type 0
LeadsToNoted rows noted place = PointsTo rows place None
    ⊎ ((to count : ℕ) × PointsTo rows place (Some to) × IsNoted noted to count)

-- the chain of each node that is noted is noted to its end
abbrev pub AreNotedToEnd : List NodeRow → List (Option ℕ) → Type 0
AreNotedToEnd rows noted = (place count : ℕ) → IsNoted noted place count
    → LeadsToNoted rows noted place

-- what was noted stays as it was
abbrev pub StayNoted : List (Option ℕ) → List (Option ℕ) → Type 0
StayNoted old new = (place count : ℕ) → IsNoted old place count → IsNoted new place count
