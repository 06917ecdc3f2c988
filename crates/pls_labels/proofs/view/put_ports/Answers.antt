use Rattle.std.proofs.Common.{◌≡◌, ◌∙◌, ℕ, List, Some, length, map, take, get_or, ap, sym, arith}
use Rattle.std.proofs.lemmas.List.{length-map, length-take-le, take_all}
use Rattle.std.proofs.lemmas.Option.{slice_get-get_or}
use Rattle.pls_labels.specs.Seen.{label_of, seen_port}
use Rattle.pls_configuration.specs.declared.row.Port.{Port}
use Rattle.pls_graph.specs.Places.{beside}
use Rattle.pls_graph.proofs.Beside.{beside_many, beside_port}
use Rattle.pls_labels.proofs.view.put_ports.Goals as goal

pub returns-clause-shown : goal.returns-clause-shown
returns-clause-shown g c =
    c.loop-port.invariant.seen
    ∙ ap (map (seen_port (label_of c.args.net.now (g.L.Labels.listed c.args.labels.now))))
    (take_all c.loop-port.port-index c.args.named.now c.loop-port-test.false)

pub returns-in_err-push-clause-small : goal.returns-in_err-push-clause-small
returns-in_err-push-clause-small g c = λ roomy few.
    let ports = c.args.named.now in
    let seen : length c.loop-port.ports.items ≡ length (take c.loop-port.port-index ports) =
    rw (length-map, length-map) at (ap length c.loop-port.invariant.seen) in
    let count =
    length-take-le c.loop-port.port-index ports (omega (arith, c.loop-port-test.true)) in
    absurd (cc (c.in_err-push.ensures.succeeds
    (omega (arith, seen, count, few, roomy, c.loop-port.invariant.room))))

pub bounds-places-p : goal.bounds-places-p
bounds-places-p g c =
    let rows = c.args.net.now in
    let many = beside_many rows c.places-places.ensures.valid c.args.i c.args.named.now c.requires.named in
    let listed = ap length c.places-places.ensures.places in
    let number = c.loop-port.invariant.number in
    let within = c.loop-port-test.true in omega arith

pub port_view-requires-clause-at : goal.port_view-requires-clause-at
port_view-requires-clause-at g c =
    let rows = c.args.net.now in
    let ports = c.args.named.now in
    let index = c.loop-port.port-index in
    let none : Port = record { nbr = 0; weight = 0 } in
    beside_port rows c.places-places.ensures.valid c.args.i index ports (get_or ports index none) 0
    c.requires.named (slice_get-get_or ports index none c.loop-port-test.true)
    ∙ ap (λ (k : ℕ). Some (get_or (beside rows c.args.i) k 0)) (sym c.loop-port.invariant.number)
    ∙ ap (λ (places : List ℕ). Some (get_or places c.loop-port.p 0))
    (sym c.places-places.ensures.places)
