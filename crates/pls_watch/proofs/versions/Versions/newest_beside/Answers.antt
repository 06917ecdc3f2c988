use Rattle.std.proofs.Common.{◌≡◌, ◌∙◌, ℕ, List, length, get_or, Some, slice_get, sym, ap, arith}
use Rattle.std.proofs.lemmas.Option.{same_Some, slice_get_within}
use Rattle.pls_configuration.specs.declared.row.Port.{Port}
use Rattle.pls_configuration.specs.declared.row.NodeRow.{NodeRow}
use Rattle.pls_sim.proofs.Ends.{beside_length, end_at}
use Rattle.pls_sim.proofs.Numbering.{value_at}
use Rattle.pls_watch.specs.Versions.{newest}
use Rattle.pls_watch.specs.Turning.{Turned}
use Rattle.pls_watch.specs.inner.Woven.{woven}
use Rattle.pls_watch.proofs.Arrived.{port_there}
use Rattle.pls_watch.proofs.versions.Versions.newest_beside.Goals as goal

pub bounds-places-port : goal.bounds-places-port
bounds-places-port c =
    let rows = c.self.inside.net.now in
    let network = ap (λ (turned : Turned). turned.network) c.self.view_is in
    let there = port_there c.args.self.now.network c.args.i c.args.port c.requires.place
    c.requires.port in
    let stands : slice_get rows c.args.i ≡ Some there.0 =
    ap (λ (rows : List NodeRow). slice_get rows c.args.i) network ∙ there.2 in
    omega (
      arith,
      slice_get_within there.0.ports c.args.port there.1 there.3,
      beside_length rows c.self.invariant.1.is_network c.args.i there.0 stands,
      ap length c.places.ensures.places,
    )

pub returns : goal.returns
returns c = λ row at stands has.
    let old = c.self.inside in
    let rows = old.net.now in
    let kept = c.self.invariant.1 in
    let network = ap (λ (turned : Turned). turned.network) c.self.view_is in
    let here : slice_get rows c.args.i ≡ Some row =
    ap (λ (rows : List NodeRow). slice_get rows c.args.i) network ∙ stands in
    let end = end_at rows kept.is_network c.args.i c.args.port row here
    (slice_get_within row.ports c.args.port at has) in
    let place : ℕ = get_or c.places.result.now c.args.port 0 in
    let there : slice_get rows place ≡ Some end.other =
    ap (λ (places : List ℕ). slice_get rows (get_or places c.args.port 0)) c.places.ensures.places
    ∙ end.there in
    let value : get_or old.newest.versions place 0 ≡ c.get.result.version =
    value_at old.newest.versions place c.get.result.version
    (omega (arith, slice_get_within rows place end.other there, kept.each_node)) c.get.ensures.version in
    sym value ∙ kept.are_newest place end.other there
    ∙ ap (newest (woven old.sim.events old.givings.items)) (sym end.leads ∙ ap (λ (port : Port). port.nbr)
    (same_Some end.port at (sym end.has ∙ has)))
    ∙ ap (λ (turned : Turned). newest turned.turns at.nbr) c.self.view_is
