use Rattle.std.proofs.Common.{◌<◌, ◌+◌, ℕ, Bool, List, get_or, length, set, subst, sym, arith}
use Rattle.std.proofs.lemmas.List.{get_or_default}
use Rattle.pls_components.proofs.Putting.{ArePutAt-end, Putting, Putting-first, Putting-more, room_for-first, room_for-others}
use Rattle.pls_components.proofs.part_marks.put_into.Goals as goal

pub loop-j-init : goal.loop-j-init
loop-j-init c =
    (Putting-first c.args.places.now c.args.marked.now c.args.room.now.labels, c.requires.room)

pub replace_spare-requires-clause-room : goal.replace_spare-requires-clause-room
replace_spare-requires-clause-room c =
    room_for-first c.args.marked.now c.loop-j.j c.bits.result c.bits.ensures c.loop-j.room.spare
    c.loop-j.invariant.1

pub loop-j-preserved : goal.loop-j-preserved
loop-j-preserved c =
    let places = c.args.places.now in
    let marked = c.args.marked.now in
    let old = c.args.room.now.labels in
    let now = c.loop-j.room.labels in
    let j = c.loop-j.j in
    let place : ℕ = get_or places j 0 in
    let within : place < length now =
    omega (arith, c.requires.within j 0 c.loop-j-test.true, c.loop-j.invariant.0.size) in
    let more : Putting places marked old (set now place c.bits.result) (j + 1) =
    Putting-more places marked old now j place c.bits.result c.requires.rising
    c.loop-j-test.true (get_or_default places j 0 place c.loop-j-test.true) c.bits.ensures within
    c.loop-j.invariant.0 in (
      subst (λ (labels : List (List Bool)). Putting places marked old labels (j + 1))
          (sym c.replace_spare.ensures.replaced) more,
      room_for-others marked j c.bits.result c.bits.ensures c.loop-j.room.spare
          c.loop-j.invariant.1 c.replace_spare.new.self.spare c.replace_spare.ensures.spare,
    )

pub returns : goal.returns
returns c =
    ArePutAt-end c.args.places.now c.args.marked.now c.args.room.now.labels c.loop-j.room.labels
    c.loop-j.j c.loop-j-test.false c.requires.each c.loop-j.invariant.0
