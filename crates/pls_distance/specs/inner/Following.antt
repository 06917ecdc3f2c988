-- Whether distances that were found follow the pointers, and labels made of them.
use Rattle.std.specs.Prelude.{◌≡◌, ℕ, ◌+◌, List, length, get_or, slice_get, slice_index_or, Option, Some, None}
use Rattle.std.specs.Option.{unwrap_or}
use Rattle.pls_configuration.specs.declared.row.Port.{Port}
use Rattle.pls_configuration.specs.declared.row.NodeRow.{NodeRow}
use Rattle.pls_graph.specs.Places.{place_in}
use Rattle.pls_distance.specs.declared.spt.SptLabel.{SptLabel}
use Rattle.pls_distance.specs.inner.Saying.{far_says}

-- how far a place was found to be, and 0 where no walk leads there
abbrev pub far : List (Option ℕ) → ℕ → ℕ
far found place = unwrap_or (slice_index_or found place None) 0

-- where the node at a place points at another, it is farther by the weight of the edge
abbrev pub IsFollowed : List NodeRow → List (Option ℕ) → ℕ → Type 0
IsFollowed rows found place =
    (row : NodeRow) (number : ℕ) (port : Port) → slice_get rows place ≡ Some row
    → row.state.up ≡ Some number → slice_get row.ports number ≡ Some port
    → far found place ≡ far found (place_in rows port.nbr) + port.weight

-- so it is at each place
abbrev pub AreFollowed : List NodeRow → List (Option ℕ) → Type 0
AreFollowed rows found = (place : ℕ) → IsFollowed rows found place

-- a label for each depth, with the root and the distance at its place
pub record AreLabelsSoFar (root : ℕ) (depths : List ℕ) (found : List (Option ℕ))
    (labels : List SptLabel) (count : ℕ) : Type 0 where
  pub each : length labels ≡ count
  pub label : (place : ℕ) (label : SptLabel) → slice_get labels place ≡ Some label
      → label ≡ far_says root (get_or depths place 0) (far found place)
