use Rattle.std.proofs.Common.{◌≡◌, ◌≢◌, ◌<◌, ◌∙◌, ◌==◌, ℕ, Option, Some, length, position, slice_get, sym, ap, arith, subst}
use Rattle.pls_schedule.specs.declared.event.Event.{Event}
use Rattle.pls_schedule.specs.declared.event.Event.TheVariants.{Restart}
use Rattle.pls_watch.specs.declared.turn.Turn.TheVariants.{Plain}
use Rattle.pls_watch.specs.inner.Woven.{woven}
use Rattle.pls_watch.specs.Turning.{Turned, turning}
use Rattle.pls_watch.proofs.Woven.{turns_after, woven_after}
use Rattle.pls_watch.proofs.Arrived.{not_there, place_there}
use Rattle.pls_watch.proofs.More.{held_restart}
use Rattle.pls_watch.proofs.Keep.{kept_restart, rooms_more, round_more}
use Rattle.pls_watch.proofs.Numbered.{numbered_restart}
use Rattle.pls_watch.proofs.versions.Versions.restart.Goals as goal

pub invariant_of-self-2 : goal.invariant_of-self-2
invariant_of-self-2 c =
    let old = c.self.inside in
    let room : length (woven old.sim.events old.givings.items) < old.most =
    omega (
      arith,
      c.requires,
      ap (λ (turned : Turned). turned.most) c.self.view_is,
      ap (λ (turned : Turned). length turned.turns) c.self.view_is,
    ) in
    let grown = turns_after old.sim c.step.new.self old.givings.items (Restart c.args.node)
    c.in_ok-step.ensures.taken c.self.invariant.5 in
    rw (grown) (
      round_more old.net.now old.most (woven old.sim.events old.givings.items) (Restart c.args.node) old.sim c.step.new.self
          c.in_ok-step.ensures.taken c.self.invariant.0,
      kept_restart old.net.now (woven old.sim.events old.givings.items) _ _ _ c.self.invariant.1 c.args.node,
      rooms_more old.most _ _ (woven old.sim.events old.givings.items) _ room c.self.invariant.2,
      numbered_restart old.net.now (woven old.sim.events old.givings.items) _ _ _ _ c.self.invariant.3 _ _ _
          c.self.invariant.1
          c.args.node,
      c.self.invariant.4,
      woven_after old.sim c.step.new.self old.givings.items (Restart c.args.node)
          c.in_ok-step.ensures.taken c.self.invariant.5,
    )

pub returns-clause-holds : goal.returns-clause-holds
returns-clause-holds c = λ i row neighbour stands differs.
    let old = c.self.inside in
    let there : slice_get old.net.now i ≡ Some row =
    ap (λ (turned : Turned). slice_get turned.network i) c.self.view_is ∙ stands in
    let elsewhere : position (λ row. c.args.node == row.id) old.net.now ≢ Some i =
    subst (λ (place : Option ℕ). place ≢ Some i)
    (sym (place_there _ _ c.args.node _
    ((λ k. (c.in_ok-step.ensures.taken k).network) ∙ c.self.invariant.0.network)
    c.place_of.ensures.place)) differs in
    rw (← c.self.view_is)
    (held_restart old.net.now (woven old.sim.events old.givings.items) c.args.node row.id neighbour
    c.self.invariant.1.numbered
    (not_there old.net.now c.self.invariant.1.is_network i row there c.args.node elsewhere))

pub returns-clause-taken : goal.returns-clause-taken
returns-clause-taken c =
    let old = c.self.inside in
    let event : Event = Restart c.args.node in
    (λ i. record {
      network = old.net.now;
      most = old.most;
      turns = turns_after old.sim c.step.new.self old.givings.items event
          c.in_ok-step.ensures.taken c.self.invariant.5 i;
    }) ∙ ap (turning (Plain event)) c.self.view_is
