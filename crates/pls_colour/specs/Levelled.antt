-- Labels that say levels.
use Rattle.std.specs.Prelude.{◌≡◌, ℕ, List, slice_get, Some}
use Rattle.pls_configuration.specs.declared.row.NodeRow.{NodeRow}
use Rattle.pls_configuration.specs.Walk.{edges_of}
use Rattle.pls_graph.specs.Levels.{IsLevel}

-- the label of a node is the one for its level: its distance in edges from the node whose identity
-- is smallest, which stands first
abbrev pub saying_level : {L : Type 0} → (ℕ → L) → List NodeRow → NodeRow → L → Type 0
saying_level level_label rows row label =
    (first : NodeRow) → slice_get rows 0 ≡ Some first
    → (level : ℕ) × IsLevel (edges_of rows) first.id row.id level × (label ≡ level_label level)
