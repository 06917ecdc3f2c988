use Rattle.std.proofs.Common.{length, ap, arith}
use Rattle.pls_sim.specs.Applying.{Played}
use Rattle.pls_sim.specs.Schedule.{emits_of}
use Rattle.pls_sim.proofs.Keeping.{target_of}
use Rattle.pls_sim.proofs.sim.Sim.arrives_at.Goals as goal

pub index-requires : goal.index-requires
index-requires c =
    let old = c.self.inside in
    omega (
      arith,
      c.requires.from_one,
      c.requires.emitted,
      ap (λ (played : Played). length (emits_of played.events)) c.self.view_is,
      c.self.invariant.1.many,
      old.sent.ok.0,
    )

pub returns-clause-port : goal.returns-clause-port
returns-clause-port c emit is =
    (target_of c.self.inside.net.now c.self.invariant.0.network c.self.inside.events.items
    c.self.inside.sent.items c.self.inside.restarted.items c.self.inside.arrived.items
    c.self.invariant.1 c.self.inside.most c.args.self.now c.self.view_is c.args.number
    c.requires.from_one c.requires.emitted c.index.result.now c.index.ensures emit
    is).port

pub returns-clause-place : goal.returns-clause-place
returns-clause-place c emit is =
    (target_of c.self.inside.net.now c.self.invariant.0.network c.self.inside.events.items
    c.self.inside.sent.items c.self.inside.restarted.items c.self.inside.arrived.items
    c.self.invariant.1 c.self.inside.most c.args.self.now c.self.view_is c.args.number
    c.requires.from_one c.requires.emitted c.index.result.now c.index.ensures emit
    is).place
