use Rattle.std.proofs.Common.{◌≡◌, arith}
use Rattle.pls_labels.proofs.Rooms.{labels_blank}
use Rattle.pls_labels.proofs.label_room.LabelRoom.blank.Goals as goal

pub returns : goal.returns
returns c =
    let all : c.loop.counter ≡ c.args.nodes = omega (arith, c.loop-test.false) in
    rw (c.loop.invariant, all) (labels_blank _ c.args.nodes)
