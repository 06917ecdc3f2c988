use Rattle.std.proofs.Common.{◌≡◌, ℕ, List, Option, IfSome, get_or, arith, refl, subst, sym}
use Rattle.pls_configuration.specs.declared.row.Port.{Port}
use Rattle.pls_scheme.specs.Reading.{ReadPort}
use Rattle.pls_compile.proofs.TableRead.{port_read, ports_many}
use Rattle.pls_compile.proofs.in_network.NodeInNetworkSees.weight.Goals as goal

pub bounds-self-port : goal.bounds-self-port
bounds-self-port c =
    let node = c.args.self.now in
    let many = ports_many node.table.now node.ports.now node.places.now node.beside in
    omega (arith, many, c.requires)

pub returns : goal.returns
returns c =
    let node = c.args.self.now in
    let ports : List Port = node.ports.now in
    let none : Port = record { nbr = 0; weight = 0 } in
    let many = ports_many node.table.now ports node.places.now node.beside in
    subst (λ (port : Option (ReadPort (List ℕ))). IfSome port
    (λ port. (get_or ports c.args.port none).weight ≡ port.weight))
    (sym (port_read node.table.now ports node.places.now c.args.port none node.beside
    (omega (arith, many, c.requires)))) refl
