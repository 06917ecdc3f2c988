use Rattle.std.proofs.Common.{◌∙◌, List, slice_get, set, refl, ap, arith}
use Rattle.pls_configuration.specs.declared.row.NodeRow.{NodeRow}
use Rattle.pls_graph_edits.specs.Edits.{in_state}
use Rattle.pls_graph_edits.proofs.Shaped.{range_kept, state_rows, state_places}
use Rattle.pls_graph_edits.proofs.NodeSlot.{node_slot}
use Rattle.pls_graph_edits.proofs.shaping.set_state.Goals as goal

pub invariant_of-table : goal.invariant_of-table
invariant_of-table c =
    let slot = node_slot c.table.inside c.args.table.now c.args.i c.index-node.result.now
    c.table.view_is c.table.invariant c.requires c.index-node.ensures in (
      range_kept _ _ c.table.inside.places.items slot.table.0 slot.table.1 _ _ slot.at _ refl refl (omega arith),
      slot.table.1,
    )

pub returns-clause-rows : goal.returns-clause-rows
returns-clause-rows c = λ row has.
    let slot = node_slot c.table.inside c.args.table.now c.args.i c.index-node.result.now
    c.table.view_is c.table.invariant c.requires c.index-node.ensures in
    state_rows _ _ c.table.inside.places.items slot.table.0 slot.table.1 _ _ slot.at c.args.state row
    (ap (λ (rows : List NodeRow). slice_get rows c.args.i) slot.rows ∙ has)
    ∙ ap (λ (rows : List NodeRow). set rows c.args.i (in_state c.args.state row)) slot.rows

pub returns-clause-places : goal.returns-clause-places
returns-clause-places c =
    let slot = node_slot c.table.inside c.args.table.now c.args.i c.index-node.result.now
    c.table.view_is c.table.invariant c.requires c.index-node.ensures in
    state_places _ c.table.inside.ports.items _ slot.table.0 slot.table.1 _ _ slot.at c.args.state
    ∙ slot.beside
