use Rattle.pls_labels.proofs.Rooms.{labels_inserted, room_inserted}
use Rattle.pls_labels.proofs.label_room.LabelRoom.insert.Goals as goal

pub invariant_of-self-2 : goal.invariant_of-self-2
invariant_of-self-2 c = (
  rw c.in_ok-insert.ensures.items (room_inserted c.self.inside.words.items
      c.self.inside.slots.items c.args.i c.self.inside.total c.self.invariant.0),
  c.self.invariant.1,
)

pub returns-clause-inserted : goal.returns-clause-inserted
returns-clause-inserted c =
    rw (c.in_ok-insert.ensures.items, ← c.self.view_is)
    (labels_inserted c.self.inside.words.items c.self.inside.slots.items c.args.i)
