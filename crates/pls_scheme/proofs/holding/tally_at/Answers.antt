use Rattle.std.proofs.Common.{◌≡◌, ◌∙◌, ◌+◌, ◌++◌, ◌∷◌, [], List, Some, ap, arith, map, take, get_or, refl, slice_get}
use Rattle.std.proofs.lemmas.Option.{slice_get-get_or}
use Rattle.pls_configuration.specs.declared.row.Port.{Port}
use Rattle.pls_graph.specs.Places.{place_in}
use Rattle.pls_facts.proofs.Lists.{map-take_more}
use Rattle.pls_scheme.specs.Reading.{ReadPort, port_with, port_where}
use Rattle.pls_scheme.proofs.HeldRules.{place_named, place_within, said_there}
use Rattle.pls_scheme.proofs.holding.tally_at.Goals as goal

-- a port
abbrev some_port : Port
some_port = record { nbr = 0; weight = 0 }

pub offset_bounds-labels-places : goal.offset_bounds-labels-places
offset_bounds-labels-places g c =
    let rows = c.args.net.now in
    let ports : List Port = c.args.ports.now in
    let p = c.loop-p.p in
    let port : Port = get_or ports p some_port in
    let place : get_or c.args.places.now p 0 ≡ place_in rows port.nbr =
    place_named rows ports c.args.places.now c.requires.places p port
    (slice_get-get_or ports p some_port c.loop-p-test.true) 0 in
    let within = place_within rows port.nbr (c.requires.known p some_port c.loop-p-test.true) in
    let each = c.requires.each in
    omega (arith, place, within, each)

pub bounds-labels-places : goal.bounds-labels-places
bounds-labels-places g c =
    let rows = c.args.net.now in
    let ports : List Port = c.args.ports.now in
    let p = c.loop-p.p in
    let port : Port = get_or ports p some_port in
    let place : get_or c.args.places.now p 0 ≡ place_in rows port.nbr =
    place_named rows ports c.args.places.now c.requires.places p port
    (slice_get-get_or ports p some_port c.loop-p-test.true) 0 in
    let within = place_within rows port.nbr (c.requires.known p some_port c.loop-p-test.true) in
    let each = c.requires.each in
    omega (arith, place, within, each)

pub loop-p-preserved : goal.loop-p-preserved
loop-p-preserved g c say said =
    let ports : List Port = c.args.ports.now in
    let p = c.loop-p.p in
    let port : Port = get_or ports p some_port in
    let at : slice_get ports p ≡ Some port =
    slice_get-get_or ports p some_port c.loop-p-test.true in
    let Label : Type 0 = g.row.R-Format-Label.Denot in
    let before : List (ReadPort Label) = map (port_where say) (take p ports) in
    let read : ReadPort Label = port_with port.weight c.index-labels-places.result in
    let same : read ≡ port_where say port =
    ap (λ (label : Label). port_with port.weight label)
    (said_there c.args.net.now c.args.labels.now say c.requires.each said ports
    c.args.places.now c.requires.places p port at
    (c.requires.known p some_port c.loop-p-test.true) 0 c.index-labels-places.result
    c.index-labels-places.is) in
    let next : before ++ read ∷ [] ≡ map (port_where say) (take (p + 1) ports) =
    map-take_more (port_where say) ports p port before read refl at same in
    c.add-tally.ensures before (c.loop-p.invariant say said)
    ∙ ap (g.R.Rules.tallied c.args.rules.now c.args.own.now) next
