use Rattle.std.proofs.Common.{◌≡◌, ◌∙◌, ◌&&◌, ◌||◌, ℕ, Bool, List, Option, Some, false, get_or, length, slice_get, sym, ap, arith}
use Rattle.std.proofs.lemmas.List.{length-map, take_all}
use Rattle.pls_labels.specs.Seen.{Seen, SeenPort}
use Rattle.pls_numbers.specs.Shape.{said_by}
use Rattle.pls_facts.proofs.Lists.{item_mapped}
use Rattle.pls_scheme.specs.Reading.{ReadPort, port_with, reading}
use Rattle.pls_pathmax.specs.Labels.{PathMaxLabel, pathmax_shape}
use Rattle.pls_levels.specs.Rules.{is_in_tree}
use Rattle.pls_pathmax.specs.inner.OnePass.{is_led_on, leads_from}
use Rattle.pls_pathmax.proofs.AllFlags.{led_step, port_read, ports_many}
use Rattle.pls_pathmax.proofs.in_memory.note_ports.Goals as goal

pub loop-place-preserved : goal.loop-place-preserved
loop-place-preserved g c mine ports own_read ports_read named k within =
    let read : List Bool → Option PathMaxLabel = said_by pathmax_shape g.C.NumCode.takes in
    let view = c.args.view.now in
    let place = c.loop-place.place in
    let port : SeenPort =
    record { weight = c.port-item.result.weight; label = c.port-item.result.label } in
    let at : slice_get c.args.view.now.ports c.loop-place.place ≡ Some port =
    rw (← c.view.view_is, ← c.deref-port-items.ensures)
    (item_mapped _ c.deref-port-items.result.now c.loop-place.place c.port-item.result
    c.loop-place-test.true c.port-item.is) in
    let (theirs, label, there) : (theirs : PathMaxLabel) × (read port.label ≡ Some theirs)
    × (slice_get ports place ≡ Some (port_with port.weight theirs)) =
    port_read read view.ports ports ports_read place port at in
    let each = c.loop-place.auto.flags in
    let up_is = ap (λ (view : Seen). view.state.up) c.view.view_is in
    let leads : Bool =
    leads_from port.weight (slice_get mine.levels k) (slice_get theirs.levels k) in
    c.note_port.ensures mine theirs (ap (λ (view : Seen). read view.own) c.view.view_is ∙ own_read)
    label named k (omega (arith, within, each))
    ∙ ap (λ (up : Option ℕ). get_or c.loop-place.flags k false
    || (is_in_tree up mine place (port_with port.weight theirs) && leads)) up_is
    ∙ ap (λ (flag : Bool). flag
    || (is_in_tree view.state.up mine place (port_with port.weight theirs) && leads))
    (c.loop-place.invariant mine ports own_read ports_read named k within)
    ∙ sym (led_step view.id view.state mine theirs ports place port.weight k there)

pub returns : goal.returns
returns g c mine ports own_read ports_read named k within =
    let read : List Bool → Option PathMaxLabel = said_by pathmax_shape g.C.NumCode.takes in
    let view = c.args.view.now in
    let many : length view.ports ≡ length c.deref-port-items.result.now =
    ap (λ (view : Seen). length view.ports) (sym c.view.view_is) ∙ length-map _ _
    ∙ ap length (sym c.deref-port-items.ensures) in
    let over = c.loop-place-test.false in
    let same = ports_many read view.ports ports ports_read in
    c.loop-place.invariant mine ports own_read ports_read named k within
    ∙ ap (λ (ports : List (ReadPort PathMaxLabel)).
    is_led_on (reading view.id view.state mine ports) k)
    (take_all c.loop-place.place ports (omega (arith, many, over, same)))
