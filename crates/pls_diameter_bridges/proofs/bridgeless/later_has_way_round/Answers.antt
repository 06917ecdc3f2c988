use Rattle.std.proofs.Common.{◌<◌, ◌↔◌, IsTrue, refl, arith}
use Rattle.std.proofs.lemmas.Result.{IfOk-weaker}
use Rattle.pls_diameter_bridges.specs.inner.Crossing.{HasWayRound}
use Rattle.pls_diameter_bridges.proofs.bridgeless.later_has_way_round.Goals as goal

pub returns-then-other-place : goal.returns-then-other-place
returns-then-other-place c = (
  λ yes later. let early = c.if-other-place.true in absurd (omega (arith, early, later)),
  λ way. refl,
)

pub returns : goal.returns
returns c =
    let rows = c.args.net.now in
    let place = c.args.place in
    let other = c.args.other in
    let late = c.if-other-place.false in
    IfOk-weaker c.ends_have_way_round.result (λ yes. IsTrue yes ↔ HasWayRound rows place other)
    (λ yes. IsTrue yes ↔ (place < other → HasWayRound rows place other))
    (λ yes same. (λ is later. same.0 is, λ way. same.1 (way (omega (arith, late)))))
    c.ends_have_way_round.ensures
