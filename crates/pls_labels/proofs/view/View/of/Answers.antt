use Rattle.std.proofs.Common.{◌≡◌, ◌≤◌, List, Option, Some, None, IfSome, option_map, slice_get, length, ap, arith}
use Rattle.std.proofs.lemmas.List.{length-map}
use Rattle.std.proofs.lemmas.Option.{same_Some}
use Rattle.pls_labels.proofs.Few.{proper_at}
use Rattle.pls_labels.proofs.Views.{view_by_parts, label_at, placed}
use Rattle.pls_configuration.specs.declared.row.Port.{Port}
use Rattle.pls_configuration.specs.declared.row.NodeRow.{NodeRow}
use Rattle.pls_labels.proofs.view.View.of.Goals as goal

pub returns-clause-shows : goal.returns-clause-shows
returns-clause-shows g c =
    let rows = c.args.net.now in
    let labels = g.L.Labels.listed c.args.labels.now in
    view_by_parts rows labels c.args.i c.node-id.result.0 c.node-id.result.1 c.ports.result.now
    c.bits.result _ c.node-id.ensures.id c.node-id.ensures.state c.ports.ensures
    (label_at rows labels c.node-id.result.0 c.args.i c.bits.result
    (placed rows c.node-id.ensures.valid c.args.i c.node-id.result.0 c.node-id.ensures.id)
    c.bits.ensures)
    c.in_ok-put_ports.ensures.shown

pub invariant_of-result : goal.invariant_of-result
invariant_of-result g c =
    let shown : length c.put_ports.new.ports.items ≡ length c.ports.result.now =
    rw (length-map, length-map) at (ap length c.in_ok-put_ports.ensures.shown) in
    rw shown (proper_at c.args.net.now c.node-id.ensures.valid c.args.i c.node-id.result.1
    c.ports.result.now c.node-id.ensures.state c.ports.ensures)

-- what holds of few ports holds of a row that has few
for_few : (found : Option NodeRow) (ports : List Port) (P : Type 0)
    → option_map (λ row. row.ports) found ≡ Some ports → (length ports ≤ 8 → P)
    → IfSome found (λ row. length row.ports ≤ 8 → P)
for_few None ports P e holds = tt
for_few (Some row) ports P e holds = λ few.
    let same : row.ports ≡ ports = same_Some _ _ e in holds (rw same at few)

pub returns-in_err-put_ports-clause-small : goal.returns-in_err-put_ports-clause-small
returns-in_err-put_ports-clause-small g c =
    for_few (slice_get c.args.net.now c.args.i) c.ports.result.now _ c.ports.ensures
    (λ few. absurd (cc (c.in_err-put_ports.ensures.small
    (omega (arith, c.new-ports.ensures.capacity)) few)))
