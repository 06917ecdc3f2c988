use Rattle.std.proofs.Common.{◌≡◌, ◌*◌, length, ap, ◌∙◌, take, slice_index_or, rules}
use Rattle.std.proofs.lemmas.List.{take_more}
use Rattle.pls_bits.proofs.Ranges.{length-bits_of}
use Rattle.pls_labels.proofs.Rooms.{moved_more, slot_of}
use Rattle.pls_labels.proofs.label_room.compact.Goals as goal

pub loop-slot-preserved : goal.loop-slot-preserved
loop-slot-preserved c =
    let slots = c.args.slots.now in
    let i = c.loop-slot.slot-index in
    let slot = slice_index_or slots i (slot_of 0 0) in
    let shown = c.of_words.ensures in
    let len : length c.of_words.result ≡ slot.len =
    ap length shown ∙ length-bits_of c.args.words.now (64 * slot.at) slot.len in
    let at : c.len-at.result ≡ length c.loop-slot.fresh.items = search (rules, c.len-at.ensures) in
    rw (take_more slots i (slot_of 0 0) c.loop-slot-test.true, c.in_ok-push.ensures.items, at)
    (moved_more c.args.words.now (take i slots) c.loop-slot.fresh.items
    c.append_to.new.words.items c.loop-slot.moved.items slot c.loop-slot.invariant
    c.in_ok-append_to.ensures.kept (rw len at c.in_ok-append_to.ensures.long)
    (rw len at (c.in_ok-append_to.ensures.put ∙ shown)))
