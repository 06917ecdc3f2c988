use Rattle.std.proofs.Common.{◌≡◌, ◌∙◌, ◌<◌, List, ap, arith, length, map, sym}
use Rattle.std.proofs.lemmas.List.{length-map}
use Rattle.pls_labels.specs.Seen.{Seen, SeenPort}
use Rattle.pls_labels.specs.declared.view.PortView.{PortView}
use Rattle.pls_compile.specs.ReadLabels.{port_values}
use Rattle.pls_compile.proofs.ShownPorts.{field_shown, shows}
use Rattle.pls_compile.proofs.in_view.NodeInViewSees.beside.Goals as goal

pub returns : goal.returns
returns c =
    let seen : List SeenPort = c.args.self.now.view.now.ports in
    let ports : List PortView = c.as_slice-ports.result.now in
    let are : seen ≡ map shows ports =
    ap (λ (v : Seen). v.ports) (sym c.view.view_is) ∙ ap (map shows) (sym c.as_slice-ports.ensures)
    in
    let within : c.args.port < length ports =
    omega (
      arith,
      c.requires,
      length-map seen (port_values c.args.self.now.kinds.now),
      length-map ports shows,
      ap length are,
    ) in
    field_shown c.args.self.now.kinds.now ports seen c.args.port c.args.field
    c.index-ports-port.result _ are within c.field_in.ensures
