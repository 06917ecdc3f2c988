use Rattle.std.proofs.Common.{sym}
use Rattle.pls_compile.proofs.TableRead.{ports_many}
use Rattle.pls_compile.proofs.in_network.NodeInNetworkSees.degree.Goals as goal

pub returns : goal.returns
returns c =
    let node = c.args.self.now in
    sym (ports_many node.table.now node.ports.now node.places.now node.beside)
