-- What an edit makes of a snapshot.
use Rattle.std.specs.Prelude.{ℕ, ◌||◌, List, filter}
use Rattle.pls_configuration.specs.declared.row.NodeRow.{NodeRow}
use Rattle.pls_configuration.specs.declared.verdict.Verdict.TheVariants.{Accept}
use Rattle.pls_configuration.specs.Configuration.{ids_of}
use Rattle.pls_edits.specs.declared.edit.Edit.{Edit}
use Rattle.pls_edits.specs.Edited.{carried_over, edited, relabelled, touches}
use Rattle.pls_recheck.specs.Snapshot.{Snapshot, is_number_among}

-- the nodes that were touched before or are touched by the edit, without one that left, in their
-- order
abbrev pub touched_after : Edit → List NodeRow → List ℕ → List ℕ
touched_after edit rows touched =
    filter (λ node. is_number_among touched node || touches edit rows node)
    (ids_of (edited edit rows))

-- the snapshot after the edit: all else stays. For a node that joins there is no verdict yet,
-- and one is kept that nothing is said of
abbrev pub snapshot_after : Edit → Snapshot → Snapshot
snapshot_after edit before =
    record {
      network = edited edit before.network;
      labels = relabelled edit before.network before.labels;
      touched = touched_after edit before.network before.touched;
      kept = carried_over edit before.network (0, Accept) before.kept;
    }
