use Rattle.std.proofs.Common.{◌≡◌, ◌∙◌, ℕ, List, Some, nat_lt, get_or, slice_get, sym, ap, subst, arith}
use Rattle.std.proofs.lemmas.Option.{slice_get_within}
use Rattle.pls_configuration.specs.declared.row.NodeRow.{NodeRow}
use Rattle.pls_configuration.specs.Configuration.{ports_in}
use Rattle.pls_sim.specs.Applying.{Played}
use Rattle.pls_sim.specs.Schedule.{has_heard}
use Rattle.pls_sim.specs.Ways.{IsSlot}
use Rattle.pls_sim.proofs.Numbering.{value_at}
use Rattle.pls_sim.proofs.sim.Sim.heard_at.Goals as goal

pub index-requires-2 : goal.index-requires-2
index-requires-2 c =
    let old = c.self.inside in
    omega (
      arith,
      c.requires.number,
      ap (λ (played : Played). ports_in played.network) c.self.view_is,
      c.self.invariant.1.each_port,
      old.arrived.ok.0,
    )

pub returns : goal.returns
returns c = λ row neighbour stands slot.
    let old = c.self.inside in
    let kept = c.self.invariant.1 in
    let node : ℕ = c.args.i in
    let number : ℕ = c.args.number in
    let network = ap (λ (played : Played). played.network) c.self.view_is in
    let there : slice_get old.net.now node ≡ Some row =
    ap (λ (rows : List NodeRow). slice_get rows node) network ∙ stands in
    let own : IsSlot old.net.now number row.id neighbour =
    subst (λ (rows : List NodeRow). IsSlot rows number row.id neighbour) (sym network) slot in
    let node_step : get_or old.restarted.items node 0 ≡ c.index.result.now =
    value_at old.restarted.items node c.index.result.now
    (omega (arith, slice_get_within old.net.now node row there, kept.each_node)) c.index.ensures in
    let port_step : get_or old.arrived.items number 0 ≡ c.index-2.result.now =
    value_at old.arrived.items number c.index-2.result.now
    (omega (arith, c.requires.number, ap ports_in network, kept.each_port)) c.index-2.ensures in
    ap (λ (step : ℕ). nat_lt step c.index-2.result.now) (sym node_step)
    ∙ ap (λ (step : ℕ). nat_lt (get_or old.restarted.items node 0) step) (sym port_step)
    ∙ sym (kept.heard node number neighbour row there own)
    ∙ ap (λ (played : Played). has_heard played.network played.events row.id neighbour) c.self.view_is
