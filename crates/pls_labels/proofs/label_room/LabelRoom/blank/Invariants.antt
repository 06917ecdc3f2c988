use Rattle.std.proofs.Common.{◌≡◌, replicate}
use Rattle.pls_labels.proofs.Rooms.{slot_of}
use Rattle.pls_labels.proofs.label_room.LabelRoom.blank.Given as goal

abbrev pub invariant-loop : goal.invariant-loop
invariant-loop l = l.slots.items ≡ replicate l.counter (slot_of 0 0)
