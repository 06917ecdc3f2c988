use Rattle.pls_facts.proofs.Trees.{NoneReturns-IsTree}
use Rattle.pls_pointer.proofs.Right.{IsTree-depths}
use Rattle.pls_pointer.proofs.tree_scheme.root_and_depths.Goals as goal

pub returns-in_default-2-clause-lacking : goal.returns-in_default-2-clause-lacking
returns-in_default-2-clause-lacking c tree =
    let round = rw c.in_default-2.is at (c.in_ok-depths.ensures.returns) in
    NoneReturns-IsTree c.args.net.now c.only_node.ensures.valid tree round.0 round.1 round.2
    round.3

pub returns-clause-holds : goal.returns-clause-holds
returns-clause-holds c =
    let depths = rw c.in-Some-2.is at (c.in_ok-depths.ensures.depths) in
    IsTree-depths c.args.net.now c.in-Some-2.depths.items depths c.only_node.ensures.valid
    c.in-Some.root (rw c.in-Some.is at (c.only_node.ensures.some))
