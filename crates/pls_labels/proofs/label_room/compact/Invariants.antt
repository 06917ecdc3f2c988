use Rattle.std.proofs.Common.{take}
use Rattle.pls_labels.proofs.Rooms.{HasMoved}
use Rattle.pls_labels.proofs.label_room.compact.Given as goal

abbrev pub invariant-loop-slot : goal.invariant-loop-slot
invariant-loop-slot l = HasMoved l.words (take l.slot-index l.slots) l.fresh.items l.moved.items
