use Rattle.std.proofs.Common.{◌+◌, sym, subst, take}
use Rattle.pls_facts.specs.inner.Found.{IsOnlyFound}
use Rattle.pls_facts.proofs.Finding.{found_first, found_stays, found_twice}
use Rattle.pls_facts.proofs.only.only_node.Goals as goal
use Rattle.pls_facts.proofs.only.only_node.Goals.{then-passes+else-is_some, else-passes}

pub returns-then-is_some-clause-none : goal.returns-then-is_some-clause-none
returns-then-is_some-clause-none g c =
    found_twice g.T.StateTest.passes c.args.net.now c.loop-i.i c.node-id.result.0
    c.node-id.result.1 c.node-id.ensures.id c.node-id.ensures.state c.loop-i.only
    c.loop-i.invariant (sym c.if-is_some.ensures) (sym c.if-passes.ensures)

pub loop-i-preserved : goal.loop-i-preserved
loop-i-preserved g c =
    let test = g.T.StateTest.passes in
    let rows = c.args.net.now in
    let i = c.loop-i.i in
    elim c.if-passes.branch [
      | then-passes+else-is_some w ↦ subst (IsOnlyFound test (take (i + 1) rows)) (sym w.only-is)
          (found_first test rows i c.node-id.result.0 c.node-id.result.1 c.node-id.ensures.id
          c.node-id.ensures.state c.loop-i.only c.loop-i.invariant (sym w.if-is_some.ensures)
          (sym w.if-passes.ensures))
      | else-passes w ↦ subst (IsOnlyFound test (take (i + 1) rows)) (sym w.only-is)
          (found_stays test rows i c.node-id.result.0 c.node-id.result.1 c.node-id.ensures.id
          c.node-id.ensures.state c.loop-i.only c.loop-i.invariant (sym w.if-passes.ensures))
    ]
