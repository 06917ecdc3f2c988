use Rattle.std.proofs.Common.{◌≤◌, drop}
use Rattle.pls_components.specs.inner.Marking.{room_for}
use Rattle.pls_components.proofs.Putting.{Putting}
use Rattle.pls_components.proofs.part_marks.put_into.Given as goal

abbrev pub invariant-loop-j : goal.invariant-loop-j
invariant-loop-j l = Putting l.places l.marked l.fn.room.labels l.room.labels l.j
    × (room_for (drop l.j l.marked) ≤ l.room.spare)
