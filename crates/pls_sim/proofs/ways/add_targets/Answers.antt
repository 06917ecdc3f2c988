use Rattle.std.proofs.Common.{◌∙◌, ap, arith, length, length-append}
use Rattle.pls_sim.proofs.WayFound.{long_more, step}
use Rattle.pls_sim.proofs.ways.add_targets.Goals as goal

pub overflow_add-firsts : goal.overflow_add-firsts
overflow_add-firsts c =
    let way = step c.args.net.now c.node-id.ensures.valid c.args.i c.loop-place.place-index _
    c.places-place-items.result.now c.args.firsts.now c.ports.result.now c.port_to-port.result
    c.requires.within c.node-id.ensures.id c.places-place-items.ensures.places c.loop-place-test.true
    c.requires.firsts c.ports.ensures c.port_to-port.ensures in omega arith

pub overflow_cast-firsts-in-loop-place : goal.overflow_cast-firsts-in-loop-place
overflow_cast-firsts-in-loop-place c =
    let way = step c.args.net.now c.node-id.ensures.valid c.args.i c.loop-place.place-index _
    c.places-place-items.result.now c.args.firsts.now c.ports.result.now c.port_to-port.result
    c.requires.within c.node-id.ensures.id c.places-place-items.ensures.places c.loop-place-test.true
    c.requires.firsts c.ports.ensures c.port_to-port.ensures in omega arith

pub loop-place-preserved : goal.loop-place-preserved
loop-place-preserved c =
    let way = step c.args.net.now c.node-id.ensures.valid c.args.i c.loop-place.place-index _
    c.places-place-items.result.now c.args.firsts.now c.ports.result.now c.port_to-port.result
    c.requires.within c.node-id.ensures.id c.places-place-items.ensures.places c.loop-place-test.true
    c.requires.firsts c.ports.ensures c.port_to-port.ensures in
    let pushed = c.in_ok-push.ensures.items in
    let so_far = c.loop-place.invariant.so_far in record {
      so_far = ap length pushed ∙ length-append c.loop-place.targets.items _
          ∙ (omega arith);
      targets = rw pushed (way.more c.loop-place.targets.items so_far c.loop-place.invariant.targets);
    }

pub returns-clause-long : goal.returns-clause-long
returns-clause-long c =
    long_more c.args.net.now c.node-id.ensures.valid c.args.i _ c.loop-place.place-index
    c.places-place-items.result.now c.requires.within c.places-place-items.ensures.places
    c.loop-place.invariant.so_far
    (let end = c.loop-place.auto.place-index-end in let past = c.loop-place-test.false in omega arith)
