use Rattle.std.proofs.Common.{◌∙◌, sym}
use Rattle.pls_labels.proofs.Rooms.{bits_together-labels}
use Rattle.pls_labels.proofs.label_room.LabelRoom.total.Goals as goal

pub returns : goal.returns
returns c =
    rw (← c.self.view_is) (c.self.invariant.0.sum
    ∙ sym (bits_together-labels c.self.inside.words.items c.self.inside.slots.items))
