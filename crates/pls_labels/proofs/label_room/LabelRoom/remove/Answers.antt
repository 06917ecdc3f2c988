use Rattle.pls_labels.proofs.Rooms.{labels_removed}
use Rattle.pls_labels.proofs.label_room.LabelRoom.remove.Goals as goal

pub returns-clause-removed : goal.returns-clause-removed
returns-clause-removed c =
    rw (c.remove-slot.ensures.items, ← c.self.view_is)
    (labels_removed c.self.inside.words.items c.self.inside.slots.items c.args.i)
