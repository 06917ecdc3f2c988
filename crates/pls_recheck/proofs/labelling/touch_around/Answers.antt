use Rattle.std.proofs.Common.{◌≡◌, true, ℕ, List, Some, set, slice_get, subst}
use Rattle.pls_configuration.specs.declared.row.NodeRow.{NodeRow}
use Rattle.pls_graph.proofs.Finds.{item_at}
use Rattle.pls_recheck.specs.inner.Flags.{MarksMore, SetsAt, beside_itself}
use Rattle.pls_recheck.proofs.Around.{marks_around, note_more}
use Rattle.pls_recheck.proofs.labelling.touch_around.Goals as goal

pub returns-clause-touched : goal.returns-clause-touched
returns-clause-touched c = λ row at.
    marks_around c.args.net.now c.places.ensures.valid c.args.i row at c.args.flags.now.items
    c.set_all.new.flags.items c.requires.a_flag
    (subst (λ (places : List ℕ). SetsAt places (set c.args.flags.now.items c.args.i true)
    c.set_all.new.flags.items) c.places.ensures.places c.set_all.ensures)

pub returns-clause-around : goal.returns-clause-around
returns-clause-around c =
    let row : (row : NodeRow) × (slice_get c.args.net.now c.args.i ≡ Some row) =
    item_at c.args.net.now c.args.i c.requires.within in
    let more : MarksMore (beside_itself row.0) c.args.net.now c.args.flags.now.items
    c.set_all.new.flags.items =
    marks_around c.args.net.now c.places.ensures.valid c.args.i row.0 row.1 c.args.flags.now.items
    c.set_all.new.flags.items c.requires.a_flag
    (subst (λ (places : List ℕ). SetsAt places (set c.args.flags.now.items c.args.i true)
    c.set_all.new.flags.items) c.places.ensures.places c.set_all.ensures) in
    note_more c.args.net.now c.places.ensures.valid c.args.i row.0 row.1 c.args.flags.now.items
    c.args.around.now.items c.requires.a_flag c.requires.around c.set_all.new.flags.items more
