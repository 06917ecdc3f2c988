use Rattle.std.proofs.Common.{◌∙◌, ◌<◌, false, length, ap, refl, arith}
use Rattle.std.proofs.lemmas.Bool.{le-leb, lt-leb}
use Rattle.pls_sim.specs.Applying.{Played}
use Rattle.pls_sim.proofs.Emitting.{among, emits, emitter, next_few, next_is_behind, next_within}
use Rattle.pls_sim.proofs.Keeping.{few_sent, kept_emit, room_more}
use Rattle.pls_sim.proofs.Numbering.{first_few}
use Rattle.pls_sim.proofs.Refusing.{no_port, no_refusal, node_named, not_full, port_named}
use Rattle.pls_sim.proofs.sim.Sim.emit_at.Goals as goal

pub first-requires : goal.first-requires
first-requires c =
    let network = ap (λ (played : Played). played.network) c.self.view_is in
    let within = next_within c.self.inside.net.now c.args.self.now.network c.self.inside.ways
    c.self.invariant.0 network c.args.node c.args.place c.requires.place in
    omega (arith, within)

pub overflow_add-number : goal.overflow_add-number
overflow_add-number c =
    let network = ap (λ (played : Played). played.network) c.self.view_is in
    let at = emitter c.self.inside.net.now c.args.self.now.network c.self.inside.ways
    c.self.invariant.0 network c.args.node c.args.place c.requires.place in
    let few = first_few c.self.inside.net.now c.self.inside.ways c.self.invariant.0 c.args.place
    c.first.result at.row at.stands c.first.ensures in
    omega (arith, few)

pub overflow_add-place : goal.overflow_add-place
overflow_add-place c =
    let network = ap (λ (played : Played). played.network) c.self.view_is in
    let within = next_within c.self.inside.net.now c.args.self.now.network c.self.inside.ways
    c.self.invariant.0 network c.args.node c.args.place c.requires.place in
    omega (
      arith,
      within,
      c.self.invariant.0.are_firsts.count,
      c.self.invariant.0.network.limits.few_nodes,
    )

pub first-requires-2 : goal.first-requires-2
first-requires-2 c =
    let network = ap (λ (played : Played). played.network) c.self.view_is in
    let within = next_within c.self.inside.net.now c.args.self.now.network c.self.inside.ways
    c.self.invariant.0 network c.args.node c.args.place c.requires.place in
    omega (arith, within)

pub returns-then-number-first-clause-refused : goal.returns-then-number-first-clause-refused
returns-then-number-first-clause-refused c =
    let network = ap (λ (played : Played). played.network) c.self.view_is in
    let rows = c.self.inside.net.now in
    let seen = c.args.self.now.network in
    let at = emitter rows seen c.self.inside.ways c.self.invariant.0 network c.args.node c.args.place
    c.requires.place in
    let behind = next_is_behind rows seen c.self.inside.ways c.self.invariant.0 network c.args.node
    c.args.place c.requires.place c.first.result c.first-2.result c.first.ensures c.first-2.ensures in
    no_port _ _ _ false (not_full c.args.self.now c.requires.room)
    (node_named rows seen network c.args.node c.args.place c.args.port at)
    (port_named rows seen network c.args.node c.args.place c.args.port at
    ∙ le-leb (length at.row.ports) c.args.port (omega (arith, c.if-number-first.true, behind)))

pub returns-clause-applies : goal.returns-clause-applies
returns-clause-applies c =
    let network = ap (λ (played : Played). played.network) c.self.view_is in
    let rows = c.self.inside.net.now in
    let seen = c.args.self.now.network in
    let at = emitter rows seen c.self.inside.ways c.self.invariant.0 network c.args.node c.args.place
    c.requires.place in
    let behind = next_is_behind rows seen c.self.inside.ways c.self.invariant.0 network c.args.node
    c.args.place c.requires.place c.first.result c.first-2.result c.first.ensures c.first-2.ensures in
    no_refusal _ _ _ false (not_full c.args.self.now c.requires.room)
    (node_named rows seen network c.args.node c.args.place c.args.port at)
    (port_named rows seen network c.args.node c.args.place c.args.port at
    ∙ lt-leb (length at.row.ports) c.args.port (omega (arith, c.if-number-first.false, behind)))
    refl

pub target-requires : goal.target-requires
target-requires c =
    let network = ap (λ (played : Played). played.network) c.self.view_is in
    among c.self.inside.net.now c.args.self.now.network c.self.inside.ways c.self.invariant.0 network
    c.args.node c.args.place c.requires.place c.first.result c.first-2.result c.first.ensures
    c.first-2.ensures c.args.port (omega (arith, c.if-number-first.false))

pub emit-requires : goal.emit-requires
emit-requires c =
    let network = ap (λ (played : Played). played.network) c.self.view_is in
    let few = next_few c.self.inside.net.now c.args.self.now.network c.self.inside.ways
    c.self.invariant.0 network c.args.node c.args.place c.requires.place c.first.result
    c.first-2.result c.first.ensures c.first-2.ensures in
    omega (arith, few, c.if-number-first.false)

pub push_reserved-requires : goal.push_reserved-requires
push_reserved-requires c =
    let old = c.self.inside in
    omega (
      arith,
      c.requires.room,
      ap (λ (played : Played). played.most) c.self.view_is,
      ap (λ (played : Played). length played.events) c.self.view_is,
      old.sent.ok.0,
      c.self.invariant.1.many,
      few_sent old.events.items,
      c.self.invariant.2.for_sent,
    )

pub invariant_of-self : goal.invariant_of-self
invariant_of-self c =
    let old = c.self.inside in
    let rows = old.net.now in
    let network = ap (λ (played : Played). played.network) c.self.view_is in
    let one = emits rows c.args.self.now.network old.ways c.self.invariant.0 network c.args.node
    c.args.place c.requires.place c.first.result c.first-2.result c.first.ensures c.first-2.ensures
    c.args.port (omega (arith, c.if-number-first.false)) c.target.result c.target.ensures.port
    c.target.ensures.place in
    let put = c.push_reserved.ensures in
    let noted = c.push_reserved-2.ensures in
    let room : length old.events.items < old.most =
    omega (
      arith,
      c.requires.room,
      ap (λ (played : Played). played.most) c.self.view_is,
      ap (λ (played : Played). length played.events) c.self.view_is,
    ) in (
      c.self.invariant.0,
      rw (put.items, noted.items, c.emit.ensures)
          (kept_emit rows c.self.invariant.0.network old.events.items old.sent.items
          old.restarted.items old.arrived.items c.self.invariant.1 c.args.node c.args.port one.to
          c.target.result one.goes one.arrives one.stands),
      rw (put.capacity, noted.items, noted.capacity)
          (room_more old.most _ _ old.events.items _ room c.self.invariant.2),
    )
