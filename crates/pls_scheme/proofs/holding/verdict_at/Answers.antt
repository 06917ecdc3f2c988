use Rattle.std.proofs.Common.{get_or, ◌≡◌, ◌<◌, ◌∙◌, ap, length, map, slice_get, sym, List, Some, refl, subst, arith}
use Rattle.std.specs.Option.{option_copied}
use Rattle.std.proofs.lemmas.Option.{slice_get-get_or, slice_get_read}
use Rattle.pls_configuration.specs.declared.row.Port.{Port}
use Rattle.pls_configuration.specs.declared.row.State.{State}
use Rattle.pls_configuration.specs.declared.row.NodeRow.{NodeRow}
use Rattle.pls_graph.specs.Places.{named_places}
use Rattle.pls_graph.proofs.Placed.{pointer_within}
use Rattle.pls_graph.proofs.Finds.{item_at}
use Rattle.pls_facts.proofs.Lists.{given_at}
use Rattle.pls_scheme.specs.Judging.{judged_from}
use Rattle.pls_scheme.specs.Reading.{Read, label_above, port_where}
use Rattle.pls_scheme.specs.inner.Holding.{AreKnown}
use Rattle.pls_scheme.proofs.HeldRules.{all_known, label_above-said, places_are, places_many, reading-said, said_there}
use Rattle.pls_scheme.proofs.holding.verdict_at.Goals as goal
use Rattle.pls_scheme.proofs.holding.verdict_at.Goals.{in-Some, in-None}

pub bounds-places-up : goal.bounds-places-up
bounds-places-up g c =
    let rows = c.args.net.now in
    let (row, at) : (row : NodeRow) × (slice_get rows c.args.i ≡ Some row) =
    item_at rows c.args.i c.requires.within in
    let state : row.state ≡ c.node-id.result.1 =
    given_at (λ (row : NodeRow). row.state) (slice_get rows c.args.i) row _ c.node-id.ensures.state
    at in
    places_many rows c.args.i row at c.places-places.result.now c.places-places.ensures.places
    c.in-Some.up
    (pointer_within rows c.node-id.ensures.valid c.args.i row at c.in-Some.up
    (ap (λ (state : State). state.up) state ∙ c.in-Some.is))

pub tally_at-tally-requires-clause-known : goal.tally_at-tally-requires-clause-known
tally_at-tally-requires-clause-known g c =
    let rows = c.args.net.now in
    let (row, at) : (row : NodeRow) × (slice_get rows c.args.i ≡ Some row) =
    item_at rows c.args.i c.requires.within in
    let ports : row.ports ≡ c.ports.result.now =
    given_at (λ (row : NodeRow). row.ports) (slice_get rows c.args.i) row _ c.ports.ensures
    at in
    subst (AreKnown rows) ports (all_known rows c.node-id.ensures.valid c.args.i row at)

pub tally_at-tally-requires-clause-places : goal.tally_at-tally-requires-clause-places
tally_at-tally-requires-clause-places g c =
    let rows = c.args.net.now in
    let (row, at) : (row : NodeRow) × (slice_get rows c.args.i ≡ Some row) =
    item_at rows c.args.i c.requires.within in
    let ports : row.ports ≡ c.ports.result.now =
    given_at (λ (row : NodeRow). row.ports) (slice_get rows c.args.i) row _ c.ports.ensures at in
    places_are rows c.args.i row at c.places-places.result.now c.places-places.ensures.places
    ∙ ap (named_places rows) ports

pub returns : goal.returns
returns g c say said row at =
    let rows = c.args.net.now in
    let labels = c.args.labels.now in
    let ports : List Port = c.ports.result.now in
    let Label : Type 0 = g.row.R-Format-Label.Denot in
    let state : State = c.node-id.result.1 in
    let ports_are : row.ports ≡ ports =
    given_at (λ (row : NodeRow). row.ports) (slice_get rows c.args.i) row ports
    c.ports.ensures at in
    let state_is : row.state ≡ state =
    given_at (λ (row : NodeRow). row.state) (slice_get rows c.args.i) row state
    c.node-id.ensures.state at in
    let id_is : row.id ≡ c.node-id.result.0 =
    given_at (λ (row : NodeRow). row.id) (slice_get rows c.args.i) row c.node-id.result.0
    c.node-id.ensures.id at in
    let own_is : c.index-labels-i.result ≡ say row.id =
    said c.args.i row c.index-labels-i.result at
    (slice_get_read labels (length labels) c.args.i c.index-labels-i.result refl
    (let each = c.requires.each in let within = c.requires.within in omega arith)
    c.index-labels-i.is) in
    let above : option_copied c.match-state.above
    ≡ label_above (map (port_where say) ports) state.up =
    elim c.match-state.branch [
      | in-Some w ↦
          let within : w.in-Some.up < length ports =
          subst (λ (ports : List Port). w.in-Some.up < length ports) ports_are
          (pointer_within rows c.node-id.ensures.valid c.args.i row at w.in-Some.up
          (ap (λ (state : State). state.up) state_is ∙ w.in-Some.is)) in
          let port : Port = get_or ports w.in-Some.up (record { nbr = 0; weight = 0 }) in
          let port_at : slice_get ports w.in-Some.up ≡ Some port =
          slice_get-get_or ports w.in-Some.up (record { nbr = 0; weight = 0 }) within in
          let known : AreKnown rows ports =
          subst (AreKnown rows) ports_are (all_known rows c.node-id.ensures.valid c.args.i row at) in
          ap option_copied w.above-is
          ∙ ap Some (said_there rows labels say c.requires.each said ports
          c.places-places.result.now
          (places_are rows c.args.i row at c.places-places.result.now
          c.places-places.ensures.places ∙ ap (named_places rows) ports_are) w.in-Some.up port
          port_at (known w.in-Some.up (record { nbr = 0; weight = 0 }) within) 0 _
          w.index-labels-places.is)
          ∙ sym (ap (label_above (map (port_where say) ports)) w.in-Some.is
          ∙ label_above-said say ports w.in-Some.up port port_at)
      | in-None w ↦ ap option_copied w.above-is
          ∙ sym (ap (label_above (map (port_where say) ports)) w.in-None.is)
    ] in
    c.verdict.ensures (map (port_where say) ports) above (c.tally_at-tally.ensures say said)
    ∙ ap (λ (read : Read Label). judged_from 3 (g.R.Judgement.rules c.args.rules.now read))
    (reading-said say row c.node-id.result.0 state ports c.index-labels-i.result id_is state_is
    ports_are own_is)
