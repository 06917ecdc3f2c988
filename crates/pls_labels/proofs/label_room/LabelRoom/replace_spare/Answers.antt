use Rattle.std.proofs.Common.{◌≡◌, ◌<◌, ap, arith, length, map, rules}
use Rattle.std.proofs.lemmas.List.{length-map}
use Rattle.pls_labels.specs.inner.Slots.{label_of_slot}
use Rattle.pls_labels.proofs.Rooms.{free_used, labels_replaced, room_replaced}
use Rattle.pls_labels.proofs.label_room.LabelRoom.replace_spare.Goals as goal

pub invariant_of-self : goal.invariant_of-self
invariant_of-self c =
    let old = c.self.inside in
    let new = c.append_to.new.words in
    let put = c.in-Ok.ensures in
    let at : c.len.result ≡ length old.words.items = search (rules, c.len.ensures) in
    let len = c.len-2.ensures in
    let count = c.div_ceil.ensures in
    let slots = c.replace_slot-self-inside.ensures.slots in
    let labels = ap (λ s. length s.labels) c.self.view_is in
    let each = length-map old.slots.items (label_of_slot old.words.items) in
    let within : c.args.i < length old.slots.items =
    omega (arith, c.requires.within, labels, each) in
    let spare = ap (λ s. s.spare) c.self.view_is in (
      rw (slots, at)
          (room_replaced new.items old.words.items old.slots.items c.args.i c.len-2.result old.total
          c.replace_slot-self-inside.result put.kept (rw (← len) at put.long) within
          c.self.invariant.0 (rw (slots, at) at c.replace_slot-self-inside.ensures.sum)),
      free_used new.items old.words.items _ _ old.free c.div_ceil.result c.self.invariant.1
          (omega (arith, put.long, len, count)) (omega (arith, c.requires.room, spare, count, len))
          put.capacity,
    )

pub returns-clause-replaced : goal.returns-clause-replaced
returns-clause-replaced c =
    let old = c.self.inside in
    let labels : map (label_of_slot old.words.items) old.slots.items ≡ c.args.self.now.labels =
    ap (λ s. s.labels) c.self.view_is in
    let at : c.len.result ≡ length old.words.items = search (rules, c.len.ensures) in
    rw (← labels, c.replace_slot-self-inside.ensures.slots, at)
    (labels_replaced c.append_to.new.words.items old.words.items old.slots.items c.args.i
    c.len-2.result c.args.label c.in-Ok.ensures.kept c.self.invariant.0.within
    (rw (← c.len-2.ensures) at c.in-Ok.ensures.put))
