use Rattle.std.proofs.Common.{◌≡◌, ◌∙◌, ℕ, suc, ◌+◌, ◌-◌, ◌*◌, ◌%◌, ap, arith, refl}
use Rattle.std.proofs.Math.Nat.{mod-lt}
use Rattle.std.proofs.lemmas.List.FromFn.{length-map-range_with_len}
use Rattle.pls_trial.specs.Generator.{Link, draw, next, tree_link, tree_links}
use Rattle.pls_trial.proofs.Putting.{node_there, pushed, room_left, same_Link}
use Rattle.pls_trial.proofs.trial.put_tree.Goals as goal

pub put_link-requires-clause-a : goal.put_link-requires-clause-a
put_link-requires-clause-a c =
    let more = c.loop-i-test.true in
    node_there c.args.net.now c.loop-i.net c.args.nodes (2 * (c.args.nodes - 1)) c.requires.ready
    (tree_links c.loop-i.i c.args.draws.now) c.loop-i.invariant.0 (c.loop-i.i + 2) (omega arith)
    (omega arith)

pub put_link-requires-clause-b : goal.put_link-requires-clause-b
put_link-requires-clause-b c =
    let more = c.loop-i-test.true in
    let below = mod-lt c.draw.result {m = c.loop-i.i + 1} (omega arith) in
    node_there c.args.net.now c.loop-i.net c.args.nodes (2 * (c.args.nodes - 1)) c.requires.ready
    (tree_links c.loop-i.i c.args.draws.now) c.loop-i.invariant.0
    (c.draw.result % (c.loop-i.i + 1) + 1) (omega arith) (omega arith)

pub put_link-requires-clause-room : goal.put_link-requires-clause-room
put_link-requires-clause-room c =
    let more = c.loop-i-test.true in
    let many =
    length-map-range_with_len (λ i. tree_link i (draw c.args.draws.now (2 * i))) 0 c.loop-i.i in
    room_left c.args.net.now c.loop-i.net c.args.nodes (2 * (c.args.nodes - 1)) c.requires.ready
    (tree_links c.loop-i.i c.args.draws.now) c.loop-i.invariant.0 2 (omega arith)

-- one more link, by two more draws
pub loop-i-preserved : goal.loop-i-preserved
loop-i-preserved c =
    let seed = c.args.draws.now in
    let i = c.loop-i.i in
    let one : c.draw.result ≡ draw (draw seed (2 * i)) 1 =
    c.draw.ensures.drawn ∙ ap next c.loop-i.invariant.1 in
    let kept : c.draw.new.self ≡ draw (draw seed (2 * i)) 1 =
    c.draw.ensures.kept ∙ ap next c.loop-i.invariant.1 in
    let two : c.draw-weight.result ≡ draw (draw seed (2 * i)) 2 =
    c.draw-weight.ensures.drawn ∙ ap next kept in
    let last : c.draw-weight.new.self ≡ draw (draw seed (2 * i)) 2 =
    c.draw-weight.ensures.kept ∙ ap next kept in
    let link : Link = record {
      a = i + 2;
      b = c.draw.result % (i + 1) + 1;
      weight = c.draw-weight.result % 1000;
    } in (
      pushed (λ i. tree_link i (draw seed (2 * i))) c.args.net.now c.loop-i.net c.put_link.new.net
          i link c.loop-i.invariant.0 c.in_ok-put_link.ensures
          (same_Link link (tree_link i (draw seed (2 * i))) refl
          (ap (λ (d : ℕ). d % (i + 1) + 1) one) (ap (λ (d : ℕ). d % 1000) two)),
      last ∙ ap (draw seed) (let e : suc (suc (2 * i)) ≡ 2 * (i + 1) = omega arith in e),
    )
