-- The parents that are left in the pieces of a level, by places.
use Rattle.std.specs.Prelude.{◌≡◌, ℕ, ◌+◌, ◌<◌, ◌⊎◌, List, length, slice_get, Option}
use Rattle.std.specs.Option.{option_map_or}
use Rattle.pls_configuration.specs.declared.row.NodeRow.{NodeRow}
use Rattle.pls_configuration.specs.Walk.{Edge, Adjacent}
use Rattle.pls_search.specs.SubtreeSizes.{HasParentAt}

-- the identity at a place
abbrev pub id_at : List NodeRow → ℕ → ℕ
id_at rows place = option_map_or (λ row. row.id) (slice_get rows place) 0

-- the parents are those along these edges, and a depth falls by one along each
pub record IsCut (rows : List NodeRow) (edges : List Edge) (parents : List (Option ℕ)) : Type 0
  where
    pub depth : ℕ → ℕ
    pub each : length parents ≡ length rows
    pub to : (place parent : ℕ) → HasParentAt parents place parent
        → (parent < length rows) × Adjacent edges (id_at rows place) (id_at rows parent)
        × (depth place ≡ depth parent + 1)
    pub from : (place other : ℕ) → place < length rows → other < length rows
        → Adjacent edges (id_at rows place) (id_at rows other)
        → HasParentAt parents place other ⊎ HasParentAt parents other place
