use Rattle.std.proofs.Common.{◌≡◌, ◌∙◌, ℕ, inl, inr, List, Some, get_or, map, slice_get, option_map, sym, ap, arith}
use Rattle.std.proofs.lemmas.Bool.{cases_Bool, cases_lt, true≢false}
use Rattle.std.proofs.lemmas.List.{length-map}
use Rattle.std.proofs.lemmas.Option.{same_Some, slice_get-get_or, slice_get-map, slice_get_within}
use Rattle.pls_configuration.specs.declared.row.Port.{Port}
use Rattle.pls_graph.specs.Places.{place_in}
use Rattle.pls_scheme.specs.Reading.{Read, ReadPort, port_where, port_with, reading}
use Rattle.pls_scheme.proofs.HeldRules.{place_named, place_within, said_there}
use Rattle.pls_pathmax.specs.Labels.{PathMaxLabel}
use Rattle.pls_pathmax.specs.Rules.{is_heavy_outside, other_edges_are_heavy}
use Rattle.pls_levels.specs.laws.Levelwise.{all_from_0, passes_from_0}
use Rattle.pls_pathmax.proofs.outside.are_heavy.Goals as goal

-- a port
abbrev some_port : Port
some_port = record { nbr = 0; weight = 0 }

pub offset_bounds-labels-places : goal.offset_bounds-labels-places
offset_bounds-labels-places c =
    let rows = c.args.net.now in
    let ports : List Port = c.args.ports.now in
    let p = c.loop-p.p in
    let port : Port = get_or ports p some_port in
    let place : get_or c.args.places.now p 0 ≡ place_in rows port.nbr =
    place_named rows ports c.args.places.now c.requires.places p port
    (slice_get-get_or ports p some_port c.loop-p-test.true) 0 in
    let within = place_within rows port.nbr (c.requires.known p some_port c.loop-p-test.true) in
    let each = c.requires.each in
    omega (arith, place, within, each)

pub bounds-labels-places : goal.bounds-labels-places
bounds-labels-places c =
    let rows = c.args.net.now in
    let ports : List Port = c.args.ports.now in
    let p = c.loop-p.p in
    let port : Port = get_or ports p some_port in
    let place : get_or c.args.places.now p 0 ≡ place_in rows port.nbr =
    place_named rows ports c.args.places.now c.requires.places p port
    (slice_get-get_or ports p some_port c.loop-p-test.true) 0 in
    let within = place_within rows port.nbr (c.requires.known p some_port c.loop-p-test.true) in
    let each = c.requires.each in
    omega (arith, place, within, each)

pub returns-then-not-is_heavy : goal.returns-then-not-is_heavy
returns-then-not-is_heavy c say said id =
    let ports : List Port = c.args.ports.now in
    let p = c.loop-p.p in
    let port : Port = get_or ports p some_port in
    let at : slice_get ports p ≡ Some port =
    slice_get-get_or ports p some_port c.loop-p-test.true in
    let seen : List (ReadPort PathMaxLabel) = map (port_where say) ports in
    let view : Read PathMaxLabel = reading id c.args.state c.args.own.now seen in
    let same : port_with port.weight c.index-labels-places.result ≡ port_where say port =
    ap (port_with port.weight)
    (said_there c.args.net.now c.args.labels.now say c.requires.each said ports c.args.places.now
    c.requires.places p port at (c.requires.known p some_port c.loop-p-test.true) 0
    c.index-labels-places.result c.index-labels-places.is) in
    let fails = sym (ap (is_heavy_outside view p) same) ∙ sym c.is_heavy.ensures
    ∙ c.if-not-is_heavy.true in
    elim (cases_Bool (other_edges_are_heavy view)) [
      | inr none ↦ sym none
      | inl heavy ↦ absurd (true≢false (sym (passes_from_0 (is_heavy_outside view) seen heavy p
          (port_where say port) (slice_get-map (port_where say) ports p
          ∙ ap (option_map (port_where say)) at)) ∙ fails))
    ]

pub loop-p-preserved : goal.loop-p-preserved
loop-p-preserved c say said id number read below there =
    let ports : List Port = c.args.ports.now in
    let p = c.loop-p.p in
    let port : Port = get_or ports p some_port in
    let at : slice_get ports p ≡ Some port =
    slice_get-get_or ports p some_port c.loop-p-test.true in
    let seen : List (ReadPort PathMaxLabel) = map (port_where say) ports in
    let view : Read PathMaxLabel = reading id c.args.state c.args.own.now seen in
    elim (cases_lt number p) [
      | inl before ↦ c.loop-p.invariant say said id number read before there
      | inr later ↦
          let here : number ≡ p = omega (arith, later, below) in
          let same : port_with port.weight c.index-labels-places.result ≡ port_where say port =
          ap (port_with port.weight)
          (said_there c.args.net.now c.args.labels.now say c.requires.each said ports
          c.args.places.now c.requires.places p port at
          (c.requires.known p some_port c.loop-p-test.true) 0
          c.index-labels-places.result c.index-labels-places.is) in
          let is : read ≡ port_where say port = same_Some read (port_where say port)
          (sym there ∙ ap (slice_get seen) here ∙ slice_get-map (port_where say) ports p
          ∙ ap (option_map (port_where say)) at) in
          ap (λ (number : ℕ). is_heavy_outside view number read) here
          ∙ ap (is_heavy_outside view p) (is ∙ sym same) ∙ sym c.is_heavy.ensures
          ∙ c.if-not-is_heavy.false
    ]

pub returns : goal.returns
returns c say said id =
    let ports : List Port = c.args.ports.now in
    let seen : List (ReadPort PathMaxLabel) = map (port_where say) ports in
    let view : Read PathMaxLabel = reading id c.args.state c.args.own.now seen in
    sym (all_from_0 (is_heavy_outside view) seen (λ number port at.
    c.loop-p.invariant say said id number port
    (let within = slice_get_within seen number port at in
    let many = length-map ports (port_where say) in
    let ends = c.loop-p-test.false in omega (arith, within, many, ends)) at))
