use Rattle.std.proofs.Common.{◌≡◌, ◌∙◌, ℕ, suc, ◌+◌, ◌*◌, ◌%◌, ap, arith}
use Rattle.std.proofs.Math.Nat.{mod-lt}
use Rattle.std.proofs.lemmas.List.FromFn.{length-map-range_with_len}
use Rattle.pls_trial.specs.Generator.{Link, draw, next, other_link, other_links}
use Rattle.pls_trial.proofs.Putting.{node_there, pushed, room_left, same_Link}
use Rattle.pls_trial.proofs.trial.put_others.Goals as goal

pub put_link-requires-clause-a : goal.put_link-requires-clause-a
put_link-requires-clause-a c =
    let some = c.requires.nodes in
    let below = mod-lt c.draw.result {m = c.args.nodes} (omega arith) in
    node_there c.args.net.now c.loop.net c.args.nodes (2 * c.args.nodes) c.requires.ready
    (other_links c.args.nodes c.loop.counter c.args.draws.now) c.loop.invariant.0
    (c.draw.result % c.args.nodes + 1) (omega arith) (omega arith)

pub put_link-requires-clause-b : goal.put_link-requires-clause-b
put_link-requires-clause-b c =
    let some = c.requires.nodes in
    let below = mod-lt c.draw-in-loop.result {m = c.args.nodes} (omega arith) in
    node_there c.args.net.now c.loop.net c.args.nodes (2 * c.args.nodes) c.requires.ready
    (other_links c.args.nodes c.loop.counter c.args.draws.now) c.loop.invariant.0
    (c.draw-in-loop.result % c.args.nodes + 1) (omega arith) (omega arith)

pub put_link-requires-clause-room : goal.put_link-requires-clause-room
put_link-requires-clause-room c =
    let more = c.loop-test.true in
    let many =
    length-map-range_with_len (λ k. other_link c.args.nodes (draw c.args.draws.now (3 * k))) 0
    c.loop.counter in
    room_left c.args.net.now c.loop.net c.args.nodes (2 * c.args.nodes) c.requires.ready
    (other_links c.args.nodes c.loop.counter c.args.draws.now) c.loop.invariant.0 2 (omega arith)

-- one more link, by three more draws
pub loop-preserved : goal.loop-preserved
loop-preserved c =
    let nodes = c.args.nodes in
    let from = c.args.draws.now in
    let k = c.loop.counter in
    let number = draw from (3 * k) in
    let one : c.draw.result ≡ draw number 1 = c.draw.ensures.drawn ∙ ap next c.loop.invariant.1 in
    let kept : c.draw.new.self ≡ draw number 1 = c.draw.ensures.kept ∙ ap next c.loop.invariant.1 in
    let two : c.draw-in-loop.result ≡ draw number 2 = c.draw-in-loop.ensures.drawn ∙ ap next kept in
    let again : c.draw-in-loop.new.self ≡ draw number 2 =
    c.draw-in-loop.ensures.kept ∙ ap next kept in
    let three : c.draw-in-loop-2.result ≡ draw number 3 =
    c.draw-in-loop-2.ensures.drawn ∙ ap next again in
    let last : c.draw-in-loop-2.new.self ≡ draw number 3 =
    c.draw-in-loop-2.ensures.kept ∙ ap next again in
    let link : Link = record {
      a = c.draw.result % nodes + 1;
      b = c.draw-in-loop.result % nodes + 1;
      weight = 999 + c.draw-in-loop-2.result % 1000;
    } in (
      pushed (λ k. other_link nodes (draw from (3 * k))) c.args.net.now c.loop.net
          c.put_link.new.net k link c.loop.invariant.0 c.in_ok-put_link.ensures
          (same_Link link (other_link nodes number) (ap (λ (d : ℕ). d % nodes + 1) one)
          (ap (λ (d : ℕ). d % nodes + 1) two) (ap (λ (d : ℕ). 999 + d % 1000) three)),
      last ∙ ap (draw from) (let e : suc (suc (suc (3 * k))) ≡ 3 * (k + 1) = omega arith in e),
    )
