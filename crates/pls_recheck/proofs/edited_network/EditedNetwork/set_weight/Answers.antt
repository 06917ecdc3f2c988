use Rattle.std.proofs.Common.{◌≡◌, ◌∙◌, ℕ, Bool, ◌==◌, ◌||◌, List, ap, refl, subst, sym}
use Rattle.pls_configuration.specs.declared.row.NodeRow.{NodeRow}
use Rattle.pls_configuration.specs.Configuration.{ids_of}
use Rattle.pls_graph_edits.specs.Edits.{weighing}
use Rattle.pls_recheck.specs.After.{snapshot_after}
use Rattle.pls_recheck.specs.Snapshot.{IsCurrent, Snapshot}
use Rattle.pls_edits.specs.declared.edit.Edit.{Edit}
use Rattle.pls_edits.specs.declared.edit.Edit.TheVariants.{Weight}
use Rattle.pls_recheck.specs.inner.Flags.{marked}
use Rattle.pls_recheck.proofs.Noted.{AreAlike, alike_weight, kept_after, noted_after}
use Rattle.pls_recheck.proofs.Steady.{Stays, ends_stay, ids_of_ends, stays_alike}
use Rattle.pls_recheck.proofs.Touching.{current_now, same_many, parts_after, touched_now}
use Rattle.pls_recheck.proofs.edited_network.EditedNetwork.set_weight.Goals as goal

pub invariant_of-self-2 : goal.invariant_of-self-2
invariant_of-self-2 c =
    let rows = c.self.inside.net in
    let old = c.self.inside.flags.items in
    let around = c.self.inside.around.items in
    let network = c.set_weight.new.net in
    let new = c.touch_ends.new.flags.items in
    let passes : ℕ → Bool = λ node. (c.args.a == node) || (c.args.b == node) in
    let ids : ids_of network ≡ ids_of rows =
    ap ids_of c.in_ok-set_weight.ensures.ok ∙ ids_of_ends (weighing c.args.weight) (λ id row. refl) c.args.a c.args.b rows in
    let alike : AreAlike rows network =
    subst (λ (network : List NodeRow). AreAlike rows network) (sym c.in_ok-set_weight.ensures.ok)
    (alike_weight rows c.args.a c.args.b c.args.weight) in
    kept_after rows network c.self.inside.labels c.self.inside.kept.items ids old new around around
    passes c.touch_ends.ensures.touched
    (noted_after rows network ids old new around around passes c.touch_ends.ensures.touched refl
    (λ k row now at then is. (is, alike k row now at then)) c.self.invariant.noted) c.self.invariant

pub returns-clause-ok : goal.returns-clause-ok
returns-clause-ok c =
    let rows = c.self.inside.net in
    let labels = c.self.inside.labels in
    let old = c.self.inside.flags.items in
    let kept = c.self.inside.kept.items in
    let network = c.set_weight.new.net in
    let new = c.touch_ends.new.flags.items in
    let edit : Edit = Weight c.args.a c.args.b c.args.weight in
    let before : Snapshot = record {
      network = rows;
      labels = labels;
      touched = marked (ids_of rows) old;
      kept = kept;
    } in
    let ids : ids_of network ≡ ids_of rows =
    ap ids_of c.in_ok-set_weight.ensures.ok ∙ ids_of_ends (weighing c.args.weight) (λ id row. refl) c.args.a c.args.b rows in
    parts_after edit before network labels (marked (ids_of network) new)
    refl c.in_ok-set_weight.ensures.ok refl
    (touched_now rows network c.set_weight.ensures.was_valid c.touch_ends.ensures.valid labels labels ids old new
    c.self.invariant.a_flag (same_many rows network ids old c.self.invariant.a_flag)
    (λ node. (c.args.a == node) || (c.args.b == node)) c.touch_ends.ensures.touched kept)
    ∙ ap (snapshot_after edit) c.self.view_is

pub returns-clause-current : goal.returns-clause-current
returns-clause-current c = λ judge current.
    let rows = c.self.inside.net in
    let labels = c.self.inside.labels in
    let old = c.self.inside.flags.items in
    let network = c.set_weight.new.net in
    let passes : ℕ → Bool = λ node. (c.args.a == node) || (c.args.b == node) in
    let ids : ids_of network ≡ ids_of rows =
    ap ids_of c.in_ok-set_weight.ensures.ok ∙ ids_of_ends (weighing c.args.weight) (λ id row. refl) c.args.a c.args.b rows in
    let stays : Stays passes rows network =
    subst (λ (network : List NodeRow). Stays passes rows network) (sym c.in_ok-set_weight.ensures.ok)
    (ends_stay (weighing c.args.weight) (λ id row. refl) c.args.a c.args.b rows) in
    current_now rows network c.set_weight.ensures.was_valid c.touch_ends.ensures.valid labels labels ids old
    c.touch_ends.new.flags.items c.self.invariant.a_flag
    (same_many rows network ids old c.self.invariant.a_flag) passes c.touch_ends.ensures.touched
    c.self.inside.kept.items (stays_alike passes rows network labels ids stays) judge
    (subst (λ (now : Snapshot). IsCurrent judge now) (sym c.self.view_is) current)
