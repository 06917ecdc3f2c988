use Rattle.pls_compile.proofs.TableRead.{pointer_many}
use Rattle.pls_compile.proofs.in_network.NodeInNetworkSees.state.Goals as goal

pub returns-clause-pointer : goal.returns-clause-pointer
returns-clause-pointer c =
    let node = c.args.self.now in
    pointer_many node.table.now node.ports.now node.places.now node.beside node.state.up
    node.proper.pointer
