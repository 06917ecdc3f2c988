-- A network and its labels with their judge, while they are edited.
use Rattle.std.specs.Prelude.{ℕ, Bool, List}
use Rattle.pls_configuration.specs.declared.row.NodeRow.{NodeRow}
use Rattle.pls_edits.specs.declared.edit.Edit.{Edit}
use Rattle.pls_edits.specs.Edited.{edited, relabelled}
use Rattle.pls_recheck.specs.After.{touched_after}

-- the network, the labels in the order of its rows, the judge, and the identities of the touched
-- nodes in their order
pub record Rechecked (J : Type 0) : Type 0 where
  pub network : List NodeRow
  pub labels : List (List Bool)
  pub judge : J
  pub touched : List ℕ

-- a network, its labels and its touched nodes after an edit; the judge stays
abbrev pub edited_with : {J : Type 0} → Edit → Rechecked J → Rechecked J
edited_with edit before =
    record {
      network = edited edit before.network;
      labels = relabelled edit before.network before.labels;
      judge = before.judge;
      touched = touched_after edit before.network before.touched;
    }
