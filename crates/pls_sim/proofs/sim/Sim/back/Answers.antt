use Rattle.std.proofs.Common.{List, sym, ap, subst, arith}
use Rattle.pls_configuration.specs.declared.row.NodeRow.{NodeRow}
use Rattle.pls_configuration.specs.Configuration.{ports_in}
use Rattle.pls_sim.specs.Applying.{Played}
use Rattle.pls_sim.specs.Ways.{IsSlot}
use Rattle.pls_sim.proofs.sim.Sim.back.Goals as goal

pub back-requires : goal.back-requires
back-requires c =
    omega (
      arith,
      c.requires,
      ap (λ (played : Played). ports_in played.network) c.self.view_is,
      c.self.invariant.0.long,
    )

pub returns : goal.returns
returns c node neighbour slot =
    let network = ap (λ (played : Played). played.network) c.self.view_is in
    subst (λ (rows : List NodeRow). IsSlot rows c.back.result neighbour node) network
    (c.self.invariant.0.lead_back c.args.number node neighbour c.back.result c.back.ensures
    (subst (λ (rows : List NodeRow). IsSlot rows c.args.number node neighbour) (sym network) slot))
