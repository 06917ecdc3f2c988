-- The view of the node at a place.
use Rattle.std.specs.Prelude.{ℕ, Bool, List, [], None, slice_index_or}
use Rattle.pls_configuration.specs.declared.row.NodeRow.{NodeRow}
use Rattle.pls_labels.specs.Seen.{Seen, views}

-- the view of the node at a place, or where there is none, one that shows nothing
abbrev pub view_at : List NodeRow → List (List Bool) → ℕ → Seen
view_at rows labels place = slice_index_or (views rows labels) place (record {
  id = 0;
  state = record { up = None; mark = 0; num = 0 };
  own = [];
  ports = [];
})
