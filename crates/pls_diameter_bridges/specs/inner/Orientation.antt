-- Directions of the edges, by a search in depth: from each place one can go on to the first, and
-- from the first to each.
use Rattle.std.specs.Prelude.{◌≡◌, ℕ, ◌<◌, ◌≤◌, nat_lt, ◌==◌, Bool, true, not, ◌&&◌, ◌||◌, List, length, slice_get, Option, Some, None}
use Rattle.std.specs.List.{list_any}
use Rattle.pls_configuration.specs.declared.row.NodeRow.{NodeRow}
use Rattle.pls_graph.specs.Places.{beside}

-- a number that is listed; 0 where there is none
abbrev pub entry_in : Option ℕ → ℕ
entry_in None = 0
entry_in (Some entry) = entry

-- the number that is listed for a place
abbrev pub entry_at : List ℕ → ℕ → ℕ
entry_at entries place = entry_in (slice_get entries place)

-- the edge between two neighbours leads from the first to the second: down to a place from the one
-- from which it was entered, or up along any other edge
abbrev pub leads : List ℕ → List ℕ → ℕ → ℕ → Bool
leads numbers parents from to =
    (nat_lt (entry_at numbers from) (entry_at numbers to) && entry_at parents to == from)
    || (nat_lt (entry_at numbers to) (entry_at numbers from) && not (entry_at parents from == to))

-- the edge leads to the place from a neighbour that was entered earlier
abbrev pub is_way_in : List ℕ → List ℕ → ℕ → ℕ → Bool
is_way_in numbers parents place from =
    leads numbers parents from place && nat_lt (entry_at numbers from) (entry_at numbers place)

-- the edge leads from the place to a neighbour of a smaller rank
abbrev pub is_way_home : List ℕ → List ℕ → List ℕ → ℕ → ℕ → Bool
is_way_home numbers parents homes place to =
    leads numbers parents place to && nat_lt (entry_at homes to) (entry_at homes place)

-- each place but the first has a way in and a way home
pub record IsStrong (rows : List NodeRow) (numbers parents homes : List ℕ) : Type 0 where
  pub way_in : (place : ℕ) → 1 ≤ place → place < length rows
      → list_any (is_way_in numbers parents place) (beside rows place) ≡ true
  pub way_home : (place : ℕ) → 1 ≤ place → place < length rows
      → list_any (is_way_home numbers parents homes place) (beside rows place) ≡ true
