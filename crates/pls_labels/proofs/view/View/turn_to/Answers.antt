use Rattle.std.proofs.Common.{◌≡◌, length, ap}
use Rattle.std.proofs.lemmas.List.{length-map}
use Rattle.pls_labels.proofs.Few.{proper_at}
use Rattle.pls_labels.proofs.Views.{view_by_parts, label_at, placed}
use Rattle.pls_labels.proofs.view.View.turn_to.Goals as goal

pub invariant_of-self-2 : goal.invariant_of-self-2
invariant_of-self-2 g c =
    let shown : length c.put_ports.new.ports.items ≡ length c.ports.result.now =
    rw (length-map, length-map) at (ap length c.in-Ok.ensures.shown) in
    rw shown (proper_at c.args.net.now c.node-id.ensures.valid c.args.i c.node-id.result.1
    c.ports.result.now c.node-id.ensures.state c.ports.ensures)

pub returns : goal.returns
returns g c = record {
  shows =
      view_by_parts c.args.net.now (g.L.Labels.listed c.args.labels.now) c.args.i c.node-id.result.0 c.node-id.result.1
      c.ports.result.now c.bits-self-inside.result _ c.node-id.ensures.id c.node-id.ensures.state
      c.ports.ensures
      (label_at c.args.net.now (g.L.Labels.listed c.args.labels.now) c.node-id.result.0 c.args.i
      c.bits-self-inside.result
      (placed c.args.net.now c.node-id.ensures.valid c.args.i c.node-id.result.0
      c.node-id.ensures.id) c.bits-self-inside.ensures)
      c.in-Ok.ensures.shown;
}
