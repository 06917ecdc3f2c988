use Rattle.std.proofs.Common.{◌≡◌, ◌∙◌, ℕ, Bool, ◌==◌, ◌||◌, List, None, Some, cond, length, set, ap, refl, subst, sym}
use Rattle.std.proofs.lemmas.List.{length-set}
use Rattle.pls_configuration.specs.declared.row.NodeRow.{NodeRow}
use Rattle.pls_configuration.specs.Configuration.{ids_of}
use Rattle.pls_graph_edits.specs.declared.edit_error.EditError.TheVariants.{Absent, Full}
use Rattle.pls_graph_edits.specs.Edits.{are_linked}
use Rattle.pls_edits.specs.Edited.{label_refusal}
use Rattle.pls_recheck.specs.After.{snapshot_after}
use Rattle.pls_recheck.specs.Snapshot.{IsCurrent, Snapshot}
use Rattle.pls_edits.specs.declared.edit.Edit.{Edit}
use Rattle.pls_edits.specs.declared.edit.Edit.TheVariants.{Label}
use Rattle.pls_recheck.specs.inner.Flags.{MarksMore, marked}
use Rattle.pls_recheck.proofs.Relabelled.{IsRowOf, label_absent, label_alike, label_by, place_is, row_there}
use Rattle.pls_recheck.proofs.Around.{marks_linked}
use Rattle.pls_recheck.proofs.Steady.{SeeAlike}
use Rattle.pls_recheck.proofs.Touching.{current_now, parts_after, touched_now}
use Rattle.pls_recheck.proofs.edited_network.EditedNetwork.set_label.Goals as goal

pub returns-in_default-clause-refused : goal.returns-in_default-clause-refused
returns-in_default-clause-refused c =
    subst (λ (now : Snapshot). label_refusal now.network now.labels c.args.id c.args.bits.now
    ≡ Some Absent) c.self.view_is
    (label_absent c.self.inside.net c.self.inside.labels c.args.id c.args.bits.now
    (sym c.in_default.ensures.place))

pub returns-then-is_full-clause-refused : goal.returns-then-is_full-clause-refused
returns-then-is_full-clause-refused c =
    subst (λ (now : Snapshot). label_refusal now.network now.labels c.args.id c.args.bits.now
    ≡ Some Full) c.self.view_is
    (label_by c.self.inside.net c.place_of.ensures.valid c.self.inside.labels c.args.id c.in-Some.i
    c.args.bits.now (sym c.in-Some.ensures.place) c.is_full.result c.is_full.ensures
    ∙ ap (λ (b : Bool). cond b (Some Full) None) c.if-is_full.true)

pub returns-clause-allowed : goal.returns-clause-allowed
returns-clause-allowed c =
    subst (λ (now : Snapshot). label_refusal now.network now.labels c.args.id c.args.bits.now
    ≡ None) c.self.view_is
    (label_by c.self.inside.net c.place_of.ensures.valid c.self.inside.labels c.args.id c.in-Some.i
    c.args.bits.now (sym c.in-Some.ensures.place) c.is_full.result c.is_full.ensures
    ∙ ap (λ (b : Bool). cond b (Some Full) None) c.if-is_full.false)

pub invariant_of-self-2 : goal.invariant_of-self-2
invariant_of-self-2 c =
    let rows = c.self.inside.net in
    let labels = c.self.inside.labels in
    let row : (row : NodeRow) × IsRowOf rows c.args.id c.in-Some.i row =
    row_there rows c.place_of.ensures.valid c.args.id c.in-Some.i (sym c.in-Some.ensures.place) in
    record {
      a_label = ap (λ (labels : List (List Bool)). length labels) c.in-Ok.ensures.replaced
          ∙ length-set labels c.in-Some.i c.args.bits.now ∙ c.self.invariant.a_label;
      a_flag = (c.touch_around.ensures.touched row.0 row.1.at).as_many ∙ c.self.invariant.a_flag;
      a_verdict = c.self.invariant.a_verdict;
      noted = c.touch_around.ensures.around;
    }

pub returns-clause-ok : goal.returns-clause-ok
returns-clause-ok c =
    let rows = c.self.inside.net in
    let labels = c.self.inside.labels in
    let old = c.self.inside.flags.items in
    let kept = c.self.inside.kept.items in
    let new = c.touch_around.new.flags.items in
    let edit : Edit = Label c.args.id c.args.bits.now in
    let before : Snapshot = record {
      network = rows;
      labels = labels;
      touched = marked (ids_of rows) old;
      kept = kept;
    } in
    let passes : ℕ → Bool = λ node. (c.args.id == node) || are_linked rows c.args.id node in
    let row : (row : NodeRow) × IsRowOf rows c.args.id c.in-Some.i row =
    row_there rows c.place_of.ensures.valid c.args.id c.in-Some.i (sym c.in-Some.ensures.place) in
    let more : MarksMore passes rows old new =
    marks_linked rows c.place_of.ensures.valid c.args.id c.in-Some.i (sym c.in-Some.ensures.place) row.0 row.1
    old new (c.touch_around.ensures.touched row.0 row.1.at) in
    let put = c.in-Ok.ensures.replaced
    ∙ ap (λ (i : ℕ). set labels i c.args.bits.now)
    (sym (place_is rows c.place_of.ensures.valid c.args.id c.in-Some.i (sym c.in-Some.ensures.place))) in
    parts_after edit before rows c.replace.new.self (marked (ids_of rows) new) refl refl put
    (touched_now rows rows c.place_of.ensures.valid c.place_of.ensures.valid labels labels refl old new
    c.self.invariant.a_flag c.self.invariant.a_flag passes more kept)
    ∙ ap (snapshot_after edit) c.self.view_is

pub returns-clause-current : goal.returns-clause-current
returns-clause-current c = λ judge current.
    let rows = c.self.inside.net in
    let labels = c.self.inside.labels in
    let old = c.self.inside.flags.items in
    let new = c.touch_around.new.flags.items in
    let passes : ℕ → Bool = λ node. (c.args.id == node) || are_linked rows c.args.id node in
    let row : (row : NodeRow) × IsRowOf rows c.args.id c.in-Some.i row =
    row_there rows c.place_of.ensures.valid c.args.id c.in-Some.i (sym c.in-Some.ensures.place) in
    let more : MarksMore passes rows old new =
    marks_linked rows c.place_of.ensures.valid c.args.id c.in-Some.i (sym c.in-Some.ensures.place) row.0 row.1
    old new (c.touch_around.ensures.touched row.0 row.1.at) in
    let alike : SeeAlike passes rows rows labels c.replace.new.self =
    subst (λ (then : List (List Bool)). SeeAlike passes rows rows labels then)
    (sym c.in-Ok.ensures.replaced)
    (label_alike rows c.place_of.ensures.valid labels c.args.id c.in-Some.i c.args.bits.now
    (sym c.in-Some.ensures.place)) in
    current_now rows rows c.place_of.ensures.valid c.place_of.ensures.valid labels c.replace.new.self refl old
    new c.self.invariant.a_flag c.self.invariant.a_flag passes more c.self.inside.kept.items alike
    judge (subst (λ (now : Snapshot). IsCurrent judge now) (sym c.self.view_is) current)
