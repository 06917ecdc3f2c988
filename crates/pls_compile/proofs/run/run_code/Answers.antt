use Rattle.std.proofs.Common.{length}
use Rattle.pls_rules.specs.HeldTrees.{set_of}
use Rattle.pls_compile.proofs.Stepping.{reached_able, reached_falls, reached_next, reached_verdict}
use Rattle.pls_compile.proofs.run.run_code.Goals as goal

pub step_on-requires : goal.step_on-requires
step_on-requires g c =
    let set = set_of c.args.set.now in
    reached_able set.rules (length set.fields) (g.S.Sees.sight c.args.node.now) c.requires.node
    c.requires.sensible.each c.args.code.now c.requires.code c.loop-verdict.machine
    c.loop-verdict.invariant

pub returns-in-Some : goal.returns-in-Some
returns-in-Some g c =
    let set = set_of c.args.set.now in
    reached_verdict set.rules (length set.fields) (g.S.Sees.sight c.args.node.now) c.requires.node
    c.requires.sensible.each c.args.code.now c.requires.code c.loop-verdict.machine
    c.loop-verdict.invariant c.in-Some.verdict c.in-Some.ensures

pub loop-verdict-smaller : goal.loop-verdict-smaller
loop-verdict-smaller g c =
    let set = set_of c.args.set.now in
    reached_falls set.rules (length set.fields) (g.S.Sees.sight c.args.node.now) c.requires.node
    c.requires.sensible.each c.args.code.now c.requires.code c.loop-verdict.machine
    c.loop-verdict.invariant c.step_on.new.machine c.in_default.ensures

pub loop-verdict-preserved : goal.loop-verdict-preserved
loop-verdict-preserved g c =
    let set = set_of c.args.set.now in
    reached_next set.rules (length set.fields) (g.S.Sees.sight c.args.node.now) c.requires.node
    c.requires.sensible.each c.args.code.now c.requires.code c.loop-verdict.machine
    c.loop-verdict.invariant c.step_on.new.machine c.in_default.ensures
