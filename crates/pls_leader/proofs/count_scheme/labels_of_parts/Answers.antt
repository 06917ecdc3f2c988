use Rattle.std.proofs.Common.{◌≡◌, ℕ, length, subst, arith}
use Rattle.pls_leader.specs.Count.{count_says}
use Rattle.pls_leader.proofs.Nearest.{AreRightSoFar, all_right, so_far_more}
use Rattle.pls_leader.proofs.count_scheme.labels_of_parts.Goals as goal

pub loop-place-preserved : goal.loop-place-preserved
loop-place-preserved c =
    rw c.in_ok-push.ensures.items
    (so_far_more _ c.loop-place.place c.loop-place.labels.items c.label_at.result
    c.loop-place.invariant c.label_at.ensures)

pub returns : goal.returns
returns c =
    let past = c.loop-place-test.false in
    let end = c.loop-place.auto.place-end in
    let len = c.len-place-end.ensures.len in
    let same : c.loop-place.place ≡ length c.args.net.now = omega (arith, past, end, len) in
    all_right (count_says c.args.net.now) c.args.net.now c.loop-place.labels.items
    (subst (λ (count : ℕ). AreRightSoFar (count_says c.args.net.now) c.args.net.now count
    c.loop-place.labels.items) same c.loop-place.invariant)
