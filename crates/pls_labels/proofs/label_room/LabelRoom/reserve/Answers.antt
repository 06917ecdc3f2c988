use Rattle.std.proofs.Common.{◌≡◌, arith, length, rules}
use Rattle.pls_labels.proofs.Rooms.{room_moved}
use Rattle.pls_labels.proofs.label_room.LabelRoom.reserve.Goals as goal

pub invariant_of-self : goal.invariant_of-self
invariant_of-self c =
    let done = c.in_ok-words in
    let long : c.len-2.result ≡ length done.words.items = search (rules, c.len-2.ensures) in
    let most = c.min.ensures in
    let room = c.capacity.ensures in (
      room_moved done.words.items c.self.inside.slots.items done.slots.items c.self.inside.total
          (rw c.as_slice-2.ensures.value at done.ensures.lengths) c.self.invariant.0.sum
          done.ensures.lies done.ensures.few,
      record {
        fits = omega (arith, long, most, room, done.ensures.cap, done.ensures.bound);
        small = omega (arith, long, most, room, done.ensures.cap, done.ensures.bound);
      },
    )
