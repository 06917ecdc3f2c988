use Rattle.std.proofs.Common.{◌≡◌, ◌∙◌, [], length, ap, sym, arith}
use Rattle.std.proofs.lemmas.List.{length-replicate, length-set}
use Rattle.pls_labelfile.proofs.Filled.{end_too_early, other_node, label_too_many, none_misfits, all_filled, nothing_read, one_filled_more, room_for}
use Rattle.pls_labelfile.proofs.labels_build.fill.Goals as goal

pub returns-in_default-clause-misfit : goal.returns-in_default-clause-misfit
returns-in_default-clause-misfit c = λ labels remains.
    end_too_early _ labels _ _ _ _ (c.loop-place.invariant.filled labels remains)
    (omega (arith, c.loop-place-test.true, c.len-place-end.ensures.len))
    c.in_default.ensures.none

pub returns-then-id-node-clause-misfit : goal.returns-then-id-node-clause-misfit
returns-then-id-node-clause-misfit c = λ labels remains.
    other_node _ labels _ _ _ _ (c.loop-place.invariant.filled labels remains) _ c.node.result.0
    c.in-Some.label c.node.ensures.id c.in-Some.ensures.next
    (λ same. c.if-id-node.true (c.id.ensures ∙ same))

pub loop-place-init : goal.loop-place-init
loop-place-init c = record {
  long = ap length c.requires.blank ∙ length-replicate (length c.args.net.now) [];
  filled = λ labels remains.
      nothing_read c.args.net.now _ _ c.requires.blank _ labels (c.requires.room labels remains)
      remains;
  said = c.requires.said;
}

pub loop-place-preserved : goal.loop-place-preserved
loop-place-preserved c = record {
  long = ap length c.put_into.ensures.replaced
      ∙ length-set c.loop-place.room.labels c.loop-place.place c.in-Some.label.bits
      ∙ c.loop-place.invariant.long;
  filled = λ labels remains.
      one_filled_more _ labels _ _ _ _ (c.loop-place.invariant.filled labels remains) _ _ _
      c.node.result.0 c.in-Some.label c.node.ensures.id c.in-Some.ensures.next
      (sym c.id.ensures ∙ c.if-id-node.false) c.put_into.ensures.replaced
      c.put_into.ensures.spare;
  said = c.in-Some.ensures.said;
}

pub put_into-requires-clause-room : goal.put_into-requires-clause-room
put_into-requires-clause-room c =
    let labels = c.requires.said in
    room_for _ labels.0 _ _ _ _ (c.loop-place.invariant.filled labels.0 labels.1) _
    c.node.result.0 c.in-Some.label c.node.ensures.id c.in-Some.ensures.next

pub returns-in-Some-next_label-clause-misfit : goal.returns-in-Some-next_label-clause-misfit
returns-in-Some-next_label-clause-misfit c = λ labels remains.
    let count : c.len.result ≡ c.loop-place.place =
    omega (arith, c.len.ensures.len, c.len-place-end.ensures.len) in
    rw count
    (label_too_many _ labels _ _ _ _ (c.loop-place.invariant.filled labels remains) _
    c.in-Some-next_label.field-0
    (omega (arith, c.loop-place-test.false, c.len-place-end.ensures.len))
    c.in-Some-next_label.ensures.next)

pub returns-in-None-clause-misfit : goal.returns-in-None-clause-misfit
returns-in-None-clause-misfit c = λ labels remains.
    none_misfits _ labels _ _ _ _ (c.loop-place.invariant.filled labels remains)
    (omega (arith, c.loop-place-test.false, c.len-place-end.ensures.len))
    c.in-None.ensures.none

pub returns-in-None-clause-filled : goal.returns-in-None-clause-filled
returns-in-None-clause-filled c = λ labels remains.
    all_filled _ labels _ _ _ _ (c.loop-place.invariant.filled labels remains)
    (omega (arith, c.loop-place-test.false, c.len-place-end.ensures.len))
    c.in-None.ensures.none
