-- How one goes round a ring.
use Rattle.std.specs.Prelude.{ℕ, zero, suc, ◌==◌, if◌then◌else◌, List, [], ◌∷◌, length, slice_index_or}
use Rattle.pls_configuration.specs.declared.row.NodeRow.{NodeRow}
use Rattle.pls_graph.specs.Places.{beside}

-- the neighbour of a node that is not the one before
abbrev pub onward : List NodeRow → ℕ → ℕ → ℕ
onward rows here before =
    if slice_index_or (beside rows here) 0 0 == before then slice_index_or (beside rows here) 1 0
    else slice_index_or (beside rows here) 0 0

-- so many places from here on, after one came from the place before
abbrev pub places_from : List NodeRow → ℕ → ℕ → ℕ → List ℕ
places_from rows here before zero = []
places_from rows here before (suc count) =
    here ∷ places_from rows (onward rows here before) here count

-- as many places as there are nodes, from the first on through its port 0
abbrev pub places_round : List NodeRow → List ℕ
places_round rows = places_from rows 0 (slice_index_or (beside rows 0) 1 0) (length rows)
