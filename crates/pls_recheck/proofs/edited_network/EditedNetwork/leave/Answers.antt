use Rattle.std.proofs.Common.{◌≡◌, ◌∙◌, Some, ap, refl, subst, sym}
use Rattle.pls_configuration.specs.declared.row.NodeRow.{NodeRow}
use Rattle.pls_graph_edits.specs.declared.edit_error.EditError.TheVariants.{Absent}
use Rattle.pls_graph_edits.specs.Edits.{leave_refusal, without_node}
use Rattle.pls_edits.specs.declared.edit.Edit.TheVariants.{Leave}
use Rattle.pls_recheck.specs.After.{snapshot_after}
use Rattle.pls_recheck.specs.Snapshot.{IsCurrent, Snapshot}
use Rattle.pls_recheck.proofs.Carried.{Kept}
use Rattle.pls_recheck.proofs.Carrying.{leave_current, leave_keeps, leave_makes}
use Rattle.pls_recheck.proofs.Coming.{left_at}
use Rattle.pls_recheck.proofs.Relabelled.{IsRowOf, leave_absent, place_is, row_there}
use Rattle.pls_recheck.proofs.edited_network.EditedNetwork.leave.Goals as goal

pub returns-in_default-clause-refused : goal.returns-in_default-clause-refused
returns-in_default-clause-refused c =
    subst (λ (now : Snapshot). leave_refusal now.network c.args.id ≡ Some Absent) c.self.view_is
    (leave_absent c.self.inside.net c.args.id (sym c.in_default.ensures.place))

pub invariant_of-self-2 : goal.invariant_of-self-2
invariant_of-self-2 c =
    let rows = c.self.inside.net in
    let before : Kept = record {
      rows = rows;
      labels = c.self.inside.labels;
      flags = c.self.inside.flags.items;
      around = c.self.inside.around.items;
      verdicts = c.self.inside.kept.items;
    } in
    let now : Kept = record {
      rows = c.leave.new.net;
      labels = c.remove.new.self;
      flags = c.remove-2.new.self.items;
      around = c.remove-3.new.self.items;
      verdicts = c.remove-4.new.self.items;
    } in
    let row : (row : NodeRow) × IsRowOf rows c.args.id c.in-Some.i row =
    row_there rows c.leave.ensures.was_valid c.args.id c.in-Some.i (sym c.in-Some.ensures.place) in
    leave_keeps before c.leave.ensures.was_valid c.self.invariant now c.in_ok-leave.ensures.valid c.args.id
    c.in-Some.i row.0 row.1.at row.1.same row.1.found c.in_ok-leave.ensures.allowed
    (place_is rows c.leave.ensures.was_valid c.args.id c.in-Some.i (sym c.in-Some.ensures.place))
    (rw (
      c.in_ok-leave.ensures.ok
          ∙ ap (without_node rows) (sym row.1.same)
          ∙ left_at rows c.leave.ensures.was_valid c.in-Some.i row.0 row.1.at,
      c.remove.ensures,
      c.remove-2.ensures.items,
      c.remove-3.ensures.items,
      c.remove-4.ensures.items,
    ) refl)

pub returns-clause-ok : goal.returns-clause-ok
returns-clause-ok c =
    let rows = c.self.inside.net in
    let before : Kept = record {
      rows = rows;
      labels = c.self.inside.labels;
      flags = c.self.inside.flags.items;
      around = c.self.inside.around.items;
      verdicts = c.self.inside.kept.items;
    } in
    let now : Kept = record {
      rows = c.leave.new.net;
      labels = c.remove.new.self;
      flags = c.remove-2.new.self.items;
      around = c.remove-3.new.self.items;
      verdicts = c.remove-4.new.self.items;
    } in
    let row : (row : NodeRow) × IsRowOf rows c.args.id c.in-Some.i row =
    row_there rows c.leave.ensures.was_valid c.args.id c.in-Some.i (sym c.in-Some.ensures.place) in
    leave_makes before c.leave.ensures.was_valid c.self.invariant now c.in_ok-leave.ensures.valid c.args.id
    c.in-Some.i row.0 row.1.at row.1.same row.1.found c.in_ok-leave.ensures.allowed
    (place_is rows c.leave.ensures.was_valid c.args.id c.in-Some.i (sym c.in-Some.ensures.place))
    (rw (
      c.in_ok-leave.ensures.ok
          ∙ ap (without_node rows) (sym row.1.same)
          ∙ left_at rows c.leave.ensures.was_valid c.in-Some.i row.0 row.1.at,
      c.remove.ensures,
      c.remove-2.ensures.items,
      c.remove-3.ensures.items,
      c.remove-4.ensures.items,
    ) refl)
    ∙ ap (snapshot_after (Leave c.args.id)) c.self.view_is

pub returns-clause-current : goal.returns-clause-current
returns-clause-current c = λ judge current.
    let rows = c.self.inside.net in
    let before : Kept = record {
      rows = rows;
      labels = c.self.inside.labels;
      flags = c.self.inside.flags.items;
      around = c.self.inside.around.items;
      verdicts = c.self.inside.kept.items;
    } in
    let now : Kept = record {
      rows = c.leave.new.net;
      labels = c.remove.new.self;
      flags = c.remove-2.new.self.items;
      around = c.remove-3.new.self.items;
      verdicts = c.remove-4.new.self.items;
    } in
    let row : (row : NodeRow) × IsRowOf rows c.args.id c.in-Some.i row =
    row_there rows c.leave.ensures.was_valid c.args.id c.in-Some.i (sym c.in-Some.ensures.place) in
    leave_current before c.leave.ensures.was_valid c.self.invariant now c.in_ok-leave.ensures.valid c.args.id
    c.in-Some.i row.0 row.1.at row.1.same row.1.found c.in_ok-leave.ensures.allowed
    (place_is rows c.leave.ensures.was_valid c.args.id c.in-Some.i (sym c.in-Some.ensures.place))
    (rw (
      c.in_ok-leave.ensures.ok
          ∙ ap (without_node rows) (sym row.1.same)
          ∙ left_at rows c.leave.ensures.was_valid c.in-Some.i row.0 row.1.at,
      c.remove.ensures,
      c.remove-2.ensures.items,
      c.remove-3.ensures.items,
      c.remove-4.ensures.items,
    ) refl) judge
    (subst (λ (now : Snapshot). IsCurrent judge now) (sym c.self.view_is) current)
