use Rattle.std.proofs.Common.{◌≡◌, ◌∙◌, ◌<◌, ℕ, false, length, get_or, sym, ap, arith}
use Rattle.std.specs.Option.{is_none}
use Rattle.std.proofs.lemmas.Option.{slice_get_within}
use Rattle.pls_configuration.specs.Configuration.{row_of}
use Rattle.pls_schedule.specs.declared.event.Event.{Event}
use Rattle.pls_schedule.specs.declared.event.Event.TheVariants.{Emit}
use Rattle.pls_sim.proofs.Numbering.{value_at}
use Rattle.pls_sim.proofs.Refusing.{found_at, no_node, none_found, not_full}
use Rattle.pls_watch.specs.declared.turn.Turn.TheVariants.{Plain}
use Rattle.pls_watch.specs.inner.Woven.{woven}
use Rattle.pls_watch.specs.Turning.{round_of, Turned, turning}
use Rattle.pls_watch.proofs.Keep.{kept_emit, rooms_more, round_more}
use Rattle.pls_watch.proofs.Woven.{turns_after, woven_after}
use Rattle.pls_watch.proofs.Numbered.{numbered_emit}
use Rattle.pls_watch.proofs.More.{held_emit}
use Rattle.pls_watch.proofs.Arrived.{by_round, few_carried, place_there, room_in_round}
use Rattle.pls_watch.proofs.versions.Versions.emit.Goals as goal

pub returns-in_default-clause-refused : goal.returns-in_default-clause-refused
returns-in_default-clause-refused c =
    let none = none_found c.self.inside.net.now c.args.node
    (place_there _ _ c.args.node _ c.self.invariant.0.network c.place_of.ensures.place
    ∙ c.in_default.is) in
    by_round c.args.self.now (Plain (Emit c.args.node c.args.port)) c.requires
    ∙ no_node _ _ _ false
    (not_full (round_of c.args.self.now) (room_in_round c.args.self.now c.requires))
    (ap (λ (turned : Turned). is_none (row_of turned.network c.args.node)) (sym c.self.view_is)
    ∙ ap is_none none)

pub emit_at-requires-clause-place : goal.emit_at-requires-clause-place
emit_at-requires-clause-place c =
    found_at c.self.inside.sim.network c.place_of.ensures.valid c.args.node c.in-Some.from
    (sym c.place_of.ensures.place ∙ c.in-Some.is)

pub emit_at-requires-clause-room : goal.emit_at-requires-clause-room
emit_at-requires-clause-room c =
    omega (
      arith,
      room_in_round c.args.self.now c.requires,
      ap (λ (turned : Turned). turned.most) c.self.view_is,
      ap (λ (turned : Turned). length (round_of turned).events) c.self.view_is,
      c.self.invariant.0.most_is,
      ap length c.self.invariant.0.events,
    )

pub push_reserved-requires : goal.push_reserved-requires
push_reserved-requires c =
    omega (
      arith,
      c.requires,
      ap (λ (turned : Turned). turned.most) c.self.view_is,
      ap (λ (turned : Turned). length turned.turns) c.self.view_is,
      few_carried _ _ _ _ _ c.self.invariant.1,
      c.self.invariant.2.for_sent,
    )

pub invariant_of-self-2 : goal.invariant_of-self-2
invariant_of-self-2 c =
    let old = c.self.inside in
    let rows = old.net.now in
    let kept = c.self.invariant.1 in
    let from : ℕ = c.in-Some.from in
    let at = found_at rows kept.is_network c.args.node from
    (place_there _ _ c.args.node _ c.self.invariant.0.network c.place_of.ensures.place
    ∙ c.in-Some.is) in
    let within = slice_get_within rows from at.row at.stands in
    let version : get_or old.newest.versions from 0 ≡ c.get.result.version =
    value_at old.newest.versions from c.get.result.version
    (omega (arith, within, kept.each_node)) c.get.ensures.version in
    let label : get_or old.newest.labels from 0 ≡ c.get.result.label =
    value_at old.newest.labels from c.get.result.label
    (omega (arith, within, c.self.invariant.3.each_node)) c.get.ensures.label in
    let room : length (woven old.sim.events old.givings.items) < old.most =
    omega (
      arith,
      c.requires,
      ap (λ (turned : Turned). turned.most) c.self.view_is,
      ap (λ (turned : Turned). length turned.turns) c.self.view_is,
    ) in
    let event : Event = Emit c.args.node c.args.port in
    let grown = turns_after old.sim c.emit_at.new.self old.givings.items event
    c.in_ok-emit_at.ensures.taken c.self.invariant.5 in
    rw (
      c.push_reserved.ensures.versions,
      c.push_reserved.ensures.labels,
      c.push_reserved.ensures.room,
      grown,
      ← version,
      ← label,
    ) (
      round_more rows old.most (woven old.sim.events old.givings.items) (Emit c.args.node c.args.port) old.sim
          c.emit_at.new.self c.in_ok-emit_at.ensures.taken c.self.invariant.0,
      kept_emit rows (woven old.sim.events old.givings.items) _ _ _ kept c.args.node c.args.port from at,
      rooms_more old.most _ _ (woven old.sim.events old.givings.items) _ room c.self.invariant.2,
      numbered_emit rows (woven old.sim.events old.givings.items) _ _ _ _ c.self.invariant.3 _ _ _ kept c.args.node
          c.args.port from at,
      c.self.invariant.4,
      woven_after old.sim c.emit_at.new.self old.givings.items event c.in_ok-emit_at.ensures.taken
          c.self.invariant.5,
    )

pub returns-clause-holds : goal.returns-clause-holds
returns-clause-holds c = λ i row neighbour stands differs.
    rw (← c.self.view_is)
    (held_emit c.self.inside.net.now (woven c.self.inside.sim.events c.self.inside.givings.items) c.args.node c.args.port row.id
    neighbour c.self.invariant.1.numbered)

pub returns-clause-taken : goal.returns-clause-taken
returns-clause-taken c =
    let old = c.self.inside in
    let event : Event = Emit c.args.node c.args.port in
    (λ i. record {
      network = old.net.now;
      most = old.most;
      turns = turns_after old.sim c.emit_at.new.self old.givings.items event
          c.in_ok-emit_at.ensures.taken c.self.invariant.5 i;
    }) ∙ ap (turning (Plain event)) c.self.view_is
