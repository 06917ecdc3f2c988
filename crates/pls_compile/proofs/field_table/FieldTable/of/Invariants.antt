use Rattle.std.proofs.Common.{◌≡◌, length, map, take}
use Rattle.pls_compile.specs.FieldTable.{front_of}
use Rattle.pls_compile.specs.ReadLabels.{numbers_in}
use Rattle.pls_compile.proofs.field_table.FieldTable.of.Given as goal

-- the labels so far are read
abbrev pub invariant-loop-i : goal.invariant-loop-i
invariant-loop-i g l =
    map (front_of (length l.kinds)) l.entries.items
    ≡ map (numbers_in l.kinds) (take l.i (g.L.Labels.listed l.labels))
