use Rattle.std.proofs.Common.{arith}
use Rattle.pls_graph.proofs.Sized.{one_port_more}
use Rattle.pls_graph.proofs.builder.NetworkBuilder.port.Goals as goal

pub invariant_of-self-2 : goal.invariant_of-self-2
invariant_of-self-2 c = λ few.
    let more = one_port_more c.self.inside.table.rows c.add_last_port.new.self.rows c.args.port
    (rw c.self.view_is c.requires) c.in_ok-add_last_port.ensures.rows in
    let before = c.self.invariant (omega (arith, few, more)) in
    omega (arith, few, more, before, c.saturating_add-self-inside.ensures)
