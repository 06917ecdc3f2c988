use Rattle.std.proofs.Common.{◌≡◌, take}
use Rattle.pls_graph_edits.proofs.shaping.copy_with_room.Given as goal

abbrev pub invariant-loop-i : goal.invariant-loop-i
invariant-loop-i l = record {
  rows : l.packed.rows ≡ take l.i l.table.rows;
  places : l.packed.places ≡ take l.i l.table.places;
}
