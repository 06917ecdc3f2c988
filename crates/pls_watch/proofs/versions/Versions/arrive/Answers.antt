use Rattle.std.proofs.Common.{◌≡◌, ◌∙◌, ◌-◌, ◌<◌, List, length, slice_get, None, Some, sym, ap, arith}
use Rattle.pls_configuration.specs.Configuration.{ports_in}
use Rattle.pls_schedule.specs.declared.event.Event.{Event}
use Rattle.pls_schedule.specs.declared.event.Event.TheVariants.{Arrive}
use Rattle.pls_sim.specs.Schedule.{Sent, emit_number, emits_of}
use Rattle.pls_watch.specs.Versions.{plain_of}
use Rattle.pls_watch.specs.declared.turn.Turn.TheVariants.{Plain}
use Rattle.pls_watch.specs.inner.Woven.{woven}
use Rattle.pls_watch.specs.Turning.{Turned, turning}
use Rattle.pls_watch.proofs.More.{many_carried}
use Rattle.pls_watch.proofs.Keep.{rooms_more, round_more}
use Rattle.pls_watch.proofs.Woven.{turns_after, woven_after}
use Rattle.pls_watch.proofs.Arrived.{at_within, not_emitted, past_emit, zero_emit, end_within, few_emits, held_elsewhere, held_still, kept_now, numbered_now}
use Rattle.pls_watch.proofs.versions.Versions.arrive.Goals.{else-heard, then-heard+then-came-old, then-number-eq0-via-then-number-eq0, then-number-eq0-via-else-number-eq0+then-number-len}
use Rattle.pls_watch.proofs.versions.Versions.arrive.Goals as goal

pub arrives_at-target-requires-clause-emitted : goal.arrives_at-target-requires-clause-emitted
arrives_at-target-requires-clause-emitted c =
    let old = c.self.inside in
    few_emits old.net.now (woven old.sim.events old.givings.items) _ _ _ c.self.invariant.1 old.most old.sim
    c.self.invariant.0
    c.args.number (omega (arith, c.if-number-len.false, c.len.ensures))

pub heard_at-heard-requires-clause-number : goal.heard_at-heard-requires-clause-number
heard_at-heard-requires-clause-number c =
    let old = c.self.inside in
    omega (
      arith,
      ap ports_in c.self.invariant.0.network,
      at_within old.net.now (woven old.sim.events old.givings.items) _ _ _ c.self.invariant.1 old.most old.sim
          c.self.invariant.0
          c.args.number (omega (arith, c.if-number-len.false, c.len.ensures))
          (c.args.number - 1) (omega (arith, c.if-number-eq0.false)) c.arrives_at-target.result.port
          c.arrives_at-target.ensures.port,
    )

pub get-old-requires : goal.get-old-requires
get-old-requires c =
    let old = c.self.inside in
    omega (
      arith,
      c.self.invariant.1.each_port,
      at_within old.net.now (woven old.sim.events old.givings.items) _ _ _ c.self.invariant.1 old.most old.sim
          c.self.invariant.0
          c.args.number (omega (arith, c.if-number-len.false, c.len.ensures))
          (c.args.number - 1) (omega (arith, c.if-number-eq0.false)) c.arrives_at-target.result.port
          c.arrives_at-target.ensures.port,
    )

pub set-requires : goal.set-requires
set-requires c =
    let old = c.self.inside in
    omega (
      arith,
      c.self.invariant.1.each_port,
      at_within old.net.now (woven old.sim.events old.givings.items) _ _ _ c.self.invariant.1 old.most old.sim
          c.self.invariant.0
          c.args.number (omega (arith, c.if-number-len.false, c.len.ensures))
          (c.args.number - 1) (omega (arith, c.if-number-eq0.false)) c.arrives_at-target.result.port
          c.arrives_at-target.ensures.port,
    )

pub heard_at-heard-requires-clause-place : goal.heard_at-heard-requires-clause-place
heard_at-heard-requires-clause-place c =
    let old = c.self.inside in
    omega (
      arith,
      ap length c.self.invariant.0.network,
      end_within old.net.now (woven old.sim.events old.givings.items) _ _ _ c.self.invariant.1 old.most old.sim
          c.self.invariant.0
          c.args.number (omega (arith, c.if-number-len.false, c.len.ensures))
          (c.args.number - 1) (omega (arith, c.if-number-eq0.false)) c.arrives_at-target.result.port
          c.arrives_at-target.ensures.port c.arrives_at-target.result.place c.arrives_at-target.ensures.place,
    )

pub invariant_of-self-2 : goal.invariant_of-self-2
invariant_of-self-2 c =
    let old = c.self.inside in
    let rows = old.net.now in
    let room : length (woven old.sim.events old.givings.items) < old.most =
    omega (
      arith,
      c.requires,
      ap (λ (turned : Turned). turned.most) c.self.view_is,
      ap (λ (turned : Turned). length turned.turns) c.self.view_is,
    ) in
    let grown = turns_after old.sim c.step.new.self old.givings.items (Arrive c.args.number)
    c.in_ok-step.ensures.taken c.self.invariant.5 in
    rw (
      c.set.ensures.versions,
      c.set.ensures.labels,
      grown,
    ) (
      round_more rows old.most (woven old.sim.events old.givings.items) (Arrive c.args.number) old.sim c.step.new.self
          c.in_ok-step.ensures.taken c.self.invariant.0,
      kept_now rows (woven old.sim.events old.givings.items) _ _ _ c.self.invariant.1 old.most old.sim c.self.invariant.0
          c.args.number (omega (arith, c.if-number-len.false, c.len.ensures))
          (c.args.number - 1) (omega (arith, c.if-number-eq0.false)) c.arrives_at-target.result.port
          c.arrives_at-target.ensures.port c.arrives_at-target.result.place c.arrives_at-target.ensures.place
          c.heard_at-heard.result
          c.heard_at-heard.ensures c.get-old.result.version c.get-came.result.version c.later.result.version
          c.get-old.ensures.version c.get-came.ensures.version c.later.ensures.version,
      rooms_more old.most _ _ (woven old.sim.events old.givings.items) _ room c.self.invariant.2,
      numbered_now old.net.now (woven old.sim.events old.givings.items) _ _ _ c.self.invariant.1 old.most old.sim
          c.self.invariant.0 c.args.number
          (omega (arith, c.if-number-len.false, c.len.ensures)) (c.args.number -
          1)
          (omega (arith, c.if-number-eq0.false)) c.arrives_at-target.result.port c.arrives_at-target.ensures.port
          c.arrives_at-target.result.place c.arrives_at-target.ensures.place c.heard_at-heard.result
          c.heard_at-heard.ensures _ _ _ _
          c.self.invariant.3 c.get-old.result.version c.get-old.result.label c.get-came.result.version c.get-came.result.label
          c.later.result.version c.later.result.label c.get-old.ensures.version c.get-old.ensures.label
          c.get-came.ensures.version c.get-came.ensures.label c.later.ensures.version
          c.later.ensures.label,
      c.self.invariant.4,
      woven_after old.sim c.step.new.self old.givings.items (Arrive c.args.number)
          c.in_ok-step.ensures.taken c.self.invariant.5,
    )

pub returns-then-number-eq0-clause-refused : goal.returns-then-number-eq0-clause-refused
returns-then-number-eq0-clause-refused c =
    let old = c.self.inside in
    let kept = c.self.invariant.1 in
    let emits : List Sent = emits_of (plain_of (woven old.sim.events old.givings.items)) in
    let none : emit_number emits c.args.number ≡ None =
    elim c.then-number-eq0.branch [
      | then-number-eq0-via-then-number-eq0 w ↦ zero_emit emits c.args.number w.if-number-eq0.true
      | then-number-eq0-via-else-number-eq0+then-number-len w ↦
          past_emit emits c.args.number
          (omega (
            arith,
            w.if-number-len.true,
            w.len.ensures,
            ap length kept.are_carried,
            many_carried (woven old.sim.events old.givings.items),
          ))
    ] in
    not_emitted c.args.self.now c.args.number c.requires
    (ap (λ (turned : Turned). emit_number (emits_of (plain_of turned.turns)) c.args.number)
    (sym c.self.view_is) ∙ none)

pub returns-clause-holds : goal.returns-clause-holds
returns-clause-holds c = λ i row neighbour stands differs.
    let old = c.self.inside in
    let there : slice_get old.net.now i ≡ Some row =
    ap (λ (turned : Turned). slice_get turned.network i) c.self.view_is ∙ stands in
    elim c.if-heard.branch [
      | then-heard+then-came-old w ↦
          rw (← c.self.view_is)
          (held_still old.net.now (woven old.sim.events old.givings.items) _ _ _ c.self.invariant.1 old.most old.sim
          c.self.invariant.0
          c.args.number (omega (arith, c.if-number-len.false, c.len.ensures))
          (c.args.number - 1) (omega (arith, c.if-number-eq0.false)) c.arrives_at-target.result.port
          c.arrives_at-target.ensures.port c.arrives_at-target.result.place c.arrives_at-target.ensures.place
          c.heard_at-heard.result
          c.heard_at-heard.ensures w.if-heard.true c.get-old.result.version c.get-came.result.version
          w.if-came-old.true c.get-old.ensures.version c.get-came.ensures.version row.id neighbour)
      | else-heard w ↦
          rw (← c.self.view_is)
          (held_elsewhere old.net.now (woven old.sim.events old.givings.items) _ _ _ c.self.invariant.1 old.most old.sim
          c.self.invariant.0
          c.args.number (omega (arith, c.if-number-len.false, c.len.ensures))
          (c.args.number - 1) (omega (arith, c.if-number-eq0.false)) c.arrives_at-target.result.port
          c.arrives_at-target.ensures.port c.arrives_at-target.result.place c.arrives_at-target.ensures.place
          c.heard_at-heard.result
          c.heard_at-heard.ensures i row neighbour there
          (λ same. differs (w.changed-is ∙ ap Some same)))
    ]

pub returns-clause-within : goal.returns-clause-within
returns-clause-within c =
    let old = c.self.inside in
    let within : c.arrives_at-target.result.place < length c.args.self.now.network =
    omega (
      arith,
      ap (λ (turned : Turned). length turned.network) c.self.view_is,
      end_within old.net.now (woven old.sim.events old.givings.items) _ _ _ c.self.invariant.1 old.most old.sim
          c.self.invariant.0
          c.args.number (omega (arith, c.if-number-len.false, c.len.ensures))
          (c.args.number - 1) (omega (arith, c.if-number-eq0.false)) c.arrives_at-target.result.port
          c.arrives_at-target.ensures.port c.arrives_at-target.result.place c.arrives_at-target.ensures.place,
    ) in
    elim c.if-heard.branch [
      | then-heard+then-came-old w ↦ rw w.changed-is tt
      | else-heard w ↦ rw w.changed-is within
    ]

pub returns-clause-taken : goal.returns-clause-taken
returns-clause-taken c =
    let old = c.self.inside in
    let event : Event = Arrive c.args.number in
    (λ i. record {
      network = old.net.now;
      most = old.most;
      turns = turns_after old.sim c.step.new.self old.givings.items event
          c.in_ok-step.ensures.taken c.self.invariant.5 i;
    }) ∙ ap (turning (Plain event)) c.self.view_is
