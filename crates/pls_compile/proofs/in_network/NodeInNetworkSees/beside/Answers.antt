use Rattle.std.proofs.Common.{◌≡◌, arith}
use Rattle.pls_compile.proofs.TableRead.{field_read, ports_many}
use Rattle.pls_compile.proofs.in_network.NodeInNetworkSees.beside.Goals as goal

pub bounds-self-port : goal.bounds-self-port
bounds-self-port c =
    let node = c.args.self.now in
    let many = ports_many node.table.now node.ports.now node.places.now node.beside in
    omega (arith, many, c.requires, node.beside)

pub label-requires : goal.label-requires
label-requires c =
    let node = c.args.self.now in
    let many = ports_many node.table.now node.ports.now node.places.now node.beside in
    node.within c.args.port 0 (omega (arith, many, c.requires, node.beside))

pub returns-in-Some : goal.returns-in-Some
returns-in-Some c =
    let node = c.args.self.now in
    field_read node.table.now node.ports.now node.places.now node.beside c.args.port c.args.field
    c.requires (λ value. c.number_of.result ≡ value) _ c.in-Some.ensures c.number_of.ensures

pub returns-in-None : goal.returns-in-None
returns-in-None c =
    let node = c.args.self.now in
    field_read node.table.now node.ports.now node.places.now node.beside c.args.port c.args.field
    c.requires (λ value. 0 ≡ value) _ c.in-None.ensures tt
