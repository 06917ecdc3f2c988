use Rattle.std.proofs.Common.{◌≡◌, ◌∙◌, List, Some, slice_get, length, refl, ap, subst, arith}
use Rattle.std.proofs.lemmas.Option.{slice_get_read}
use Rattle.pls_configuration.specs.declared.row.Port.{Port}
use Rattle.pls_configuration.specs.declared.row.State.{State}
use Rattle.pls_configuration.specs.declared.row.NodeRow.{NodeRow}
use Rattle.pls_graph.specs.Places.{named_places}
use Rattle.pls_graph.proofs.Finds.{item_at}
use Rattle.pls_facts.proofs.Lists.{given_at}
use Rattle.pls_scheme.specs.inner.Holding.{AreKnown}
use Rattle.pls_scheme.proofs.HeldRules.{all_known, places_are, reading-said}
use Rattle.pls_pathmax.specs.Rules.{other_edges_are_heavy}
use Rattle.pls_pathmax.proofs.outside.are_heavy_at.Goals as goal

pub are_heavy-requires-clause-known : goal.are_heavy-requires-clause-known
are_heavy-requires-clause-known c =
    let rows = c.args.net.now in
    let (row, at) : (row : NodeRow) × (slice_get rows c.args.i ≡ Some row) =
    item_at rows c.args.i c.requires.within in
    let ports : row.ports ≡ c.ports.result.now =
    given_at (λ (row : NodeRow). row.ports) (slice_get rows c.args.i) row _ c.ports.ensures at in
    subst (AreKnown rows) ports (all_known rows c.node.ensures.valid c.args.i row at)

pub are_heavy-requires-clause-places : goal.are_heavy-requires-clause-places
are_heavy-requires-clause-places c =
    let rows = c.args.net.now in
    let (row, at) : (row : NodeRow) × (slice_get rows c.args.i ≡ Some row) =
    item_at rows c.args.i c.requires.within in
    let ports : row.ports ≡ c.ports.result.now =
    given_at (λ (row : NodeRow). row.ports) (slice_get rows c.args.i) row _ c.ports.ensures at in
    places_are rows c.args.i row at c.places.result.now c.places.ensures.places
    ∙ ap (named_places rows) ports

pub returns : goal.returns
returns c say said row at =
    let rows = c.args.net.now in
    let labels = c.args.labels.now in
    let ports : List Port = c.ports.result.now in
    let state : State = c.node.result.1 in
    let ports_are : row.ports ≡ ports =
    given_at (λ (row : NodeRow). row.ports) (slice_get rows c.args.i) row ports c.ports.ensures at
    in
    let state_is : row.state ≡ state =
    given_at (λ (row : NodeRow). row.state) (slice_get rows c.args.i) row state c.node.ensures.state
    at in
    let own_is : c.index-labels-i.result ≡ say row.id =
    said c.args.i row c.index-labels-i.result at
    (slice_get_read labels (length labels) c.args.i c.index-labels-i.result refl
    (let each = c.requires.each in let within = c.requires.within in omega arith)
    c.index-labels-i.is) in
    c.are_heavy.ensures say said row.id
    ∙ ap other_edges_are_heavy (reading-said say row row.id state ports c.index-labels-i.result refl
    state_is ports_are own_is)
