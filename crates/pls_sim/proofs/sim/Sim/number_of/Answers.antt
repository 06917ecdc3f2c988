use Rattle.std.proofs.Common.{◌∙◌, ◌+◌, List, slice_get, ap, subst, arith}
use Rattle.pls_configuration.specs.declared.row.NodeRow.{NodeRow}
use Rattle.pls_configuration.specs.Configuration.{ports_in}
use Rattle.pls_sim.specs.Applying.{Played}
use Rattle.pls_sim.specs.Ways.{IsSlot}
use Rattle.pls_sim.proofs.Numbering.{first_few, number_within, slot_at, with_port}
use Rattle.pls_sim.proofs.sim.Sim.number_of.Goals as goal

pub overflow_add-result : goal.overflow_add-result
overflow_add-result c =
    let old = c.self.inside in
    let network = ap (λ (played : Played). played.network) c.self.view_is in
    let row = with_port old.net.now c.args.self.now.network network c.args.i c.args.port
    c.requires.place c.requires.port in
    omega (
      arith,
      row.2,
      first_few old.net.now old.ways c.self.invariant.0 c.args.i c.first.result row.0 row.1
          c.first.ensures,
    )

pub returns-clause-within : goal.returns-clause-within
returns-clause-within c =
    let old = c.self.inside in
    let network = ap (λ (played : Played). played.network) c.self.view_is in
    let row = with_port old.net.now c.args.self.now.network network c.args.i c.args.port
    c.requires.place c.requires.port in
    omega (
      arith,
      number_within old.net.now old.ways c.self.invariant.0 c.args.i c.first.result row.0 row.1
          c.first.ensures c.args.port row.2,
      ap ports_in network,
    )

pub returns-clause-number : goal.returns-clause-number
returns-clause-number c = λ row at stands has.
    let old = c.self.inside in
    let network = ap (λ (played : Played). played.network) c.self.view_is in
    subst (λ (rows : List NodeRow). IsSlot rows (c.first.result + c.args.port) row.id at.nbr) network
    (slot_at old.net.now old.ways c.self.invariant.0 c.args.i c.first.result row
    (ap (λ (rows : List NodeRow). slice_get rows c.args.i) network ∙ stands) c.first.ensures
    c.args.port at has)
