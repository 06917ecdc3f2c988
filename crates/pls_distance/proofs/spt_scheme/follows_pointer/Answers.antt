use Rattle.std.proofs.Common.{◌≡◌, ◌∙◌, ◌+◌, ◌<◌, ◌==◌, ℕ, List, [], Option, Some, length, get_or, map, slice_get, option_map, sym, ap, arith, rules}
use Rattle.std.specs.Option.{option_map_or}
use Rattle.std.proofs.lemmas.Bool.{eq-eqb, eqb-true}
use Rattle.std.proofs.lemmas.List.{get_or-map}
use Rattle.std.proofs.lemmas.Option.{slice_get-get_or}
use Rattle.pls_configuration.specs.declared.row.Port.{Port}
use Rattle.pls_configuration.specs.declared.row.NodeRow.{NodeRow}
use Rattle.pls_graph.specs.Places.{named_places, place_in}
use Rattle.pls_graph.proofs.Beside.{beside_many}
use Rattle.pls_graph.proofs.Finds.{from_option_map, item_at}
use Rattle.pls_search.proofs.Pointed.{up_within}
use Rattle.pls_distance.specs.inner.Following.{far}
use Rattle.pls_distance.proofs.Followed.{followed_at}
use Rattle.pls_distance.proofs.spt_scheme.follows_pointer.Goals as goal

pub bounds-ports-up : goal.bounds-ports-up
bounds-ports-up c =
    up_within c.args.net.now c.node.ensures.valid c.args.place c.node.result.1 c.node.ensures.state
    c.ports.result.now c.in-Some.up c.ports.ensures c.in-Some.is

pub bounds-places-up : goal.bounds-places-up
bounds-places-up c =
    let rows = c.args.net.now in
    let (row, at) = item_at rows c.args.place c.requires.within in
    let has = ap (option_map (λ (row : NodeRow). row.ports)) at in
    let within = up_within rows c.node.ensures.valid c.args.place c.node.result.1
    c.node.ensures.state row.ports c.in-Some.up has c.in-Some.is in
    let many = beside_many rows c.node.ensures.valid c.args.place row.ports has in
    let listed = ap length c.places.ensures.places in
    omega (arith, within, many, listed)

pub returns : goal.returns
returns c =
    let rows = c.args.net.now in
    let ports = c.ports.result.now in
    let places = c.places.result.now in
    let found = c.args.found.now in
    let up = c.in-Some.up in
    let none : Port = record { nbr = 0; weight = 0 } in
    let port : Port = get_or ports up none in
    let within : up < length ports =
    up_within rows c.node.ensures.valid c.args.place c.node.result.1
    c.node.ensures.state ports up c.ports.ensures c.in-Some.is in
    let (row, at, is) : (row : NodeRow) × (slice_get rows c.args.place ≡ Some row)
    × (row.ports ≡ ports) =
    from_option_map (λ (row : NodeRow). row.ports) (slice_get rows c.args.place) ports
    c.ports.ensures in
    let beside_ports : places ≡ map (λ (port : Port). place_in rows port.nbr) ports =
    c.places.ensures.places
    ∙ ap (λ (row : Option NodeRow). option_map_or (λ (row : NodeRow). named_places rows row.ports)
    row []) at
    ∙ ap (λ (ports : List Port). map (λ (port : Port). place_in rows port.nbr) ports) is in
    let place : get_or places up 0 ≡ place_in rows port.nbr =
    ap (λ (places : List ℕ). get_or places up 0) beside_ports
    ∙ get_or-map (λ (port : Port). place_in rows port.nbr) ports up none 0 within in
    let here : c.unwrap_or.result ≡ far found c.args.place = search rules in
    let above : c.unwrap_or-2.result ≡ far found (get_or places up 0) = search rules in
    let test : c.is_farther_by.result
    ≡ (far found c.args.place == far found (place_in rows port.nbr) + port.weight) =
    c.is_farther_by.ensures
    ∙ ap (λ (dist : ℕ). dist == c.unwrap_or-2.result + port.weight) here
    ∙ ap (λ (other : ℕ). far found c.args.place == other + port.weight)
    (above ∙ ap (far found) place) in
    let both = followed_at rows c.node.ensures.valid c.args.place c.node.result.1
    c.node.ensures.state ports up c.ports.ensures c.in-Some.is port
    (slice_get-get_or ports up none within) found in (
      λ yes. both.0 (eqb-true (far found c.args.place)
          (far found (place_in rows port.nbr) + port.weight) (sym test ∙ yes)),
      λ followed. test ∙ eq-eqb (far found c.args.place)
          (far found (place_in rows port.nbr) + port.weight) (both.1 followed),
    )
