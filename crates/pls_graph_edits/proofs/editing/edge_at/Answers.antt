use Rattle.std.proofs.Common.{◌≡◌, ◌∙◌, ◌==◌, ap, sym, get_or, position, None, is_some}
use Rattle.pls_configuration.specs.declared.row.Port.{Port}
use Rattle.pls_configuration.specs.declared.row.NodeRow.{NodeRow}
use Rattle.pls_configuration.specs.Configuration.{port_to}
use Rattle.pls_graph.proofs.Beside.{named_place}
use Rattle.pls_graph_edits.proofs.Sought.{IsSought, sought, sought_none, ports_read}
use Rattle.pls_graph_edits.proofs.Sought.{free_both, found_as, no_find, unlink_absent_first, unlink_apart, unlink_allowed}
use Rattle.pls_graph_edits.proofs.editing.edge_at.Goals as goal

pub returns-in_default-clause-refused : goal.returns-in_default-clause-refused
returns-in_default-clause-refused c =
    unlink_absent_first c.args.net.now c.args.a c.args.b
    (sought_none c.args.net.now c.args.a (sym c.place_of.ensures.place ∙ c.in_default.is))

pub returns-in_default-port_number-clause-refused : goal.returns-in_default-port_number-clause-refused
returns-in_default-port_number-clause-refused c =
    let now = c.args.net.now in
    let i = c.in-Some.i in
    let row : (row : NodeRow) × IsSought now c.args.a i row =
    sought now c.args.a i (sym c.place_of.ensures.place ∙ c.in-Some.is) in
    let ports : row.0.ports ≡ c.ports.result.now =
    ports_read now i row.0 c.ports.result.now row.1.at c.ports.ensures in
    let found : c.port_number.result ≡ position (λ port. c.args.b == port.nbr) row.0.ports =
    c.port_number.ensures
    ∙ ap (position (λ (port : Port). c.args.b == port.nbr)) (sym ports) in
    unlink_apart now c.args.a c.args.b row.0 row.1.found
    (found_as (λ (port : Port). c.args.b == port.nbr) row.0.ports
    ∙ ap is_some (sym found ∙ c.in_default-port_number.is))

pub bounds-places-p : goal.bounds-places-p
bounds-places-p c =
    let now = c.args.net.now in
    let i = c.in-Some.i in
    let p = c.in-Some-port_number.p in
    let place = named_place now c.place_of.ensures.valid i p c.args.b c.ports.result.now
    c.places.result.now c.ports.ensures c.places.ensures.places
    (sym c.port_number.ensures ∙ c.in-Some-port_number.is) in
    place.0

pub returns-in_default-port_number-2-clause-refused : goal.returns-in_default-port_number-2-clause-refused
returns-in_default-port_number-2-clause-refused c =
    let now = c.args.net.now in
    let i = c.in-Some.i in
    let p = c.in-Some-port_number.p in
    let j = get_or c.places.result.now p 0 in
    let place = named_place now c.place_of.ensures.valid i p c.args.b c.ports.result.now
    c.places.result.now c.ports.ensures c.places.ensures.places
    (sym c.port_number.ensures ∙ c.in-Some-port_number.is) in
    let row : (row : NodeRow) × IsSought now c.args.a i row =
    sought now c.args.a i (sym c.place_of.ensures.place ∙ c.in-Some.is) in
    let other : (row : NodeRow) × IsSought now c.args.b j row =
    sought now c.args.b j place.1 in
    let ports2 : other.0.ports ≡ c.ports-2.result.now =
    ports_read now j other.0 c.ports-2.result.now other.1.at c.ports-2.ensures in
    let back : c.port_number-2.result ≡ position (λ port. c.args.a == port.nbr) other.0.ports =
    c.port_number-2.ensures
    ∙ ap (position (λ (port : Port). c.args.a == port.nbr)) (sym ports2) in
    let free : port_to other.0 row.0.id ≡ None =
    ap (port_to other.0) row.1.same
    ∙ no_find (λ (port : Port). c.args.a == port.nbr) other.0.ports
    (sym back ∙ c.in_default-port_number-2.is) in
    let none : port_to row.0 c.args.b ≡ None = ap (port_to row.0) (sym other.1.same)
    ∙ free_both now c.place_of.ensures.valid j i other.0 row.0 other.1.at row.1.at free in
    unlink_apart now c.args.a c.args.b row.0 row.1.found (ap is_some none)

pub returns-clause-allowed : goal.returns-clause-allowed
returns-clause-allowed c =
    let now = c.args.net.now in
    let i = c.in-Some.i in
    let p = c.in-Some-port_number.p in
    let j = get_or c.places.result.now p 0 in
    let place = named_place now c.place_of.ensures.valid i p c.args.b c.ports.result.now
    c.places.result.now c.ports.ensures c.places.ensures.places
    (sym c.port_number.ensures ∙ c.in-Some-port_number.is) in
    let row : (row : NodeRow) × IsSought now c.args.a i row =
    sought now c.args.a i (sym c.place_of.ensures.place ∙ c.in-Some.is) in
    let other : (row : NodeRow) × IsSought now c.args.b j row =
    sought now c.args.b j place.1 in
    let ports : row.0.ports ≡ c.ports.result.now =
    ports_read now i row.0 c.ports.result.now row.1.at c.ports.ensures in
    let found : c.port_number.result ≡ position (λ port. c.args.b == port.nbr) row.0.ports =
    c.port_number.ensures
    ∙ ap (position (λ (port : Port). c.args.b == port.nbr)) (sym ports) in
    unlink_allowed now c.args.a c.args.b row.0 row.1.found other.0 other.1.found
    (found_as (λ (port : Port). c.args.b == port.nbr) row.0.ports
    ∙ ap is_some (sym found ∙ c.in-Some-port_number.is))

pub returns-clause-ends : goal.returns-clause-ends
returns-clause-ends c =
    let now = c.args.net.now in
    let i = c.in-Some.i in
    let p = c.in-Some-port_number.p in
    let j = get_or c.places.result.now p 0 in
    let place = named_place now c.place_of.ensures.valid i p c.args.b c.ports.result.now
    c.places.result.now c.ports.ensures c.places.ensures.places
    (sym c.port_number.ensures ∙ c.in-Some-port_number.is) in record {
      first = sym c.place_of.ensures.place ∙ c.in-Some.is;
      second = place.1;
      forth = λ row here. ap (position (λ (port : Port). c.args.b == port.nbr))
          (ports_read now i row c.ports.result.now here c.ports.ensures)
          ∙ sym c.port_number.ensures ∙ c.in-Some-port_number.is;
      back = λ row here. ap (position (λ (port : Port). c.args.a == port.nbr))
          (ports_read now j row c.ports-2.result.now here c.ports-2.ensures)
          ∙ sym c.port_number-2.ensures ∙ c.in-Some-port_number-2.is;
    }
