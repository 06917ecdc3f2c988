use Rattle.pls_splice.proofs.Rounding.{first_here, first_later}
use Rattle.pls_splice.proofs.ring.first_without_two.Goals as goal

pub returns-then-ports-ne2 : goal.returns-then-ports-ne2
returns-then-ports-ne2 c = first_here c.args.net.now c.loop-i.i c.ports.result.now
    c.ports.ensures c.node.result.0 c.node.ensures.id c.if-ports-ne2.true c.loop-i.invariant

pub loop-i-preserved : goal.loop-i-preserved
loop-i-preserved c = first_later c.args.net.now c.loop-i.i c.ports.result.now
    c.ports.ensures c.if-ports-ne2.false c.loop-i.invariant
