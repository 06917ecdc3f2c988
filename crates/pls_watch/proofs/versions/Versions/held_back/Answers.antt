use Rattle.std.proofs.Common.{◌≡◌, ◌∙◌, List, Some, slice_get, ap, arith}
use Rattle.pls_configuration.specs.declared.row.NodeRow.{NodeRow}
use Rattle.pls_configuration.specs.Configuration.{ports_in}
use Rattle.pls_sim.proofs.Numbering.{slot_within}
use Rattle.pls_watch.specs.Versions.{held}
use Rattle.pls_watch.specs.Turning.{Turned}
use Rattle.pls_watch.specs.inner.Woven.{woven}
use Rattle.pls_watch.proofs.Arrived.{held_value, none_held, port_there}
use Rattle.pls_watch.proofs.LedBack.{heard_led, slot_led}
use Rattle.pls_watch.proofs.versions.Versions.held_back.Goals as goal

pub heard_at-requires-clause-number : goal.heard_at-requires-clause-number
heard_at-requires-clause-number c =
    let played = c.self.inside.sim in
    let same = ap (λ (turned : Turned). turned.network) c.self.view_is in
    let there = port_there c.args.self.now.network c.args.i c.args.port c.requires.place
    c.requires.port in
    let numbered = c.number_of.ensures.number there.0 there.1
    (ap (λ (rows : List NodeRow). slice_get rows c.args.i) (c.self.invariant.0.network ∙ same)
    ∙ there.2) there.3 in
    slot_within played.network c.back-back.result there.1.nbr there.0.id
    (c.back-back.ensures there.0.id there.1.nbr numbered)

pub get-requires : goal.get-requires
get-requires c =
    let played = c.self.inside.sim in
    let same = ap (λ (turned : Turned). turned.network) c.self.view_is in
    let there = port_there c.args.self.now.network c.args.i c.args.port c.requires.place
    c.requires.port in
    let numbered = c.number_of.ensures.number there.0 there.1
    (ap (λ (rows : List NodeRow). slice_get rows c.args.i) (c.self.invariant.0.network ∙ same)
    ∙ there.2) there.3 in
    omega (
      arith,
      slot_within played.network c.back-back.result there.1.nbr there.0.id
          (c.back-back.ensures there.0.id there.1.nbr numbered),
      ap ports_in c.self.invariant.0.network,
      c.self.invariant.1.each_port,
    )

pub returns-then-not-heard_at : goal.returns-then-not-heard_at
returns-then-not-heard_at c row at stands has =
    let old = c.self.inside in
    let rows = old.net.now in
    let net = c.self.invariant.1.is_network in
    let same = c.self.invariant.0.network in
    let network = ap (λ (turned : Turned). turned.network) c.self.view_is in
    let here : slice_get rows c.args.i ≡ Some row =
    ap (λ (rows : List NodeRow). slice_get rows c.args.i) network ∙ stands in
    let numbered = c.number_of.ensures.number row at
    (ap (λ (rows : List NodeRow). slice_get rows c.args.i) same ∙ here) has in
    none_held rows (woven old.sim.events old.givings.items) _ _ _ c.self.invariant.1 old.most old.sim c.self.invariant.0
    at.nbr row.id c.heard_at.result
    (heard_led rows net old.sim same c.args.i c.args.port row at here has c.number_of.result
    c.back-back.result numbered c.back-back.ensures c.places.result.now c.places.ensures.places
    c.heard_at.result c.heard_at.ensures)
    c.if-not-heard_at.true
    ∙ ap (λ (turned : Turned). held turned.network turned.turns at.nbr row.id) c.self.view_is

pub returns : goal.returns
returns c row at stands has =
    let old = c.self.inside in
    let rows = old.net.now in
    let net = c.self.invariant.1.is_network in
    let same = c.self.invariant.0.network in
    let network = ap (λ (turned : Turned). turned.network) c.self.view_is in
    let here : slice_get rows c.args.i ≡ Some row =
    ap (λ (rows : List NodeRow). slice_get rows c.args.i) network ∙ stands in
    let numbered = c.number_of.ensures.number row at
    (ap (λ (rows : List NodeRow). slice_get rows c.args.i) same ∙ here) has in
    let slot = slot_led rows net old.sim same c.args.i c.args.port row at here has
    c.number_of.result c.back-back.result numbered c.back-back.ensures in
    held_value rows (woven old.sim.events old.givings.items) _ _ _ c.self.invariant.1 old.most old.sim c.self.invariant.0
    at.nbr row.id c.heard_at.result
    (heard_led rows net old.sim same c.args.i c.args.port row at here has c.number_of.result
    c.back-back.result numbered c.back-back.ensures c.places.result.now c.places.ensures.places
    c.heard_at.result c.heard_at.ensures)
    c.if-not-heard_at.false c.back-back.result c.get.result.version slot
    (omega (
      arith,
      slot_within rows c.back-back.result at.nbr row.id slot,
      c.self.invariant.1.each_port,
    ))
    c.get.ensures.version
    ∙ ap (λ (turned : Turned). held turned.network turned.turns at.nbr row.id) c.self.view_is
