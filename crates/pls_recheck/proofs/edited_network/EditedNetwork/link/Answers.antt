use Rattle.std.proofs.Common.{◌≡◌, ◌∙◌, ℕ, Bool, ◌==◌, ◌||◌, List, ap, refl, subst, sym}
use Rattle.pls_configuration.specs.declared.row.NodeRow.{NodeRow}
use Rattle.pls_configuration.specs.Configuration.{ids_of}
use Rattle.pls_graph_edits.specs.Edits.{linking}
use Rattle.pls_recheck.specs.After.{snapshot_after}
use Rattle.pls_recheck.specs.Snapshot.{IsCurrent, Snapshot}
use Rattle.pls_edits.specs.declared.edit.Edit.{Edit}
use Rattle.pls_edits.specs.declared.edit.Edit.TheVariants.{Link}
use Rattle.pls_recheck.specs.inner.Flags.{marked}
use Rattle.pls_recheck.proofs.Noted.{kept_after, noted_after, noted_stay}
use Rattle.pls_recheck.proofs.Steady.{Stays, ends_stay, ids_of_ends, stays_alike}
use Rattle.pls_recheck.proofs.Touching.{current_now, same_many, parts_after, touched_now}
use Rattle.pls_recheck.proofs.edited_network.EditedNetwork.link.Goals as goal

pub invariant_of-self-2 : goal.invariant_of-self-2
invariant_of-self-2 c =
    let rows = c.self.inside.net in
    let old = c.self.inside.flags.items in
    let around = c.self.inside.around.items in
    let network = c.link.new.net in
    let new = c.unsettle_ends.new.flags.items in
    let passes : ℕ → Bool = λ node. (c.args.a == node) || (c.args.b == node) in
    let ids : ids_of network ≡ ids_of rows =
    ap ids_of c.in_ok-link.ensures.ok ∙ ids_of_ends (linking c.args.weight) (λ id row. refl) c.args.a c.args.b rows in
    let stays : Stays passes rows network =
    subst (λ (network : List NodeRow). Stays passes rows network) (sym c.in_ok-link.ensures.ok)
    (ends_stay (linking c.args.weight) (λ id row. refl) c.args.a c.args.b rows) in
    kept_after rows network c.self.inside.labels c.self.inside.kept.items ids old new around
    c.unsettle_ends.new.around.items passes c.unsettle_ends.ensures.touched
    (noted_after rows network ids old new around c.unsettle_ends.new.around.items passes
    c.unsettle_ends.ensures.touched c.unsettle_ends.ensures.cleared.as_many
    (noted_stay rows network around c.unsettle_ends.new.around.items passes stays c.unsettle_ends.ensures.cleared)
    c.self.invariant.noted) c.self.invariant

pub returns-clause-ok : goal.returns-clause-ok
returns-clause-ok c =
    let rows = c.self.inside.net in
    let labels = c.self.inside.labels in
    let old = c.self.inside.flags.items in
    let kept = c.self.inside.kept.items in
    let network = c.link.new.net in
    let new = c.unsettle_ends.new.flags.items in
    let edit : Edit = Link c.args.a c.args.b c.args.weight in
    let before : Snapshot = record {
      network = rows;
      labels = labels;
      touched = marked (ids_of rows) old;
      kept = kept;
    } in
    let ids : ids_of network ≡ ids_of rows =
    ap ids_of c.in_ok-link.ensures.ok ∙ ids_of_ends (linking c.args.weight) (λ id row. refl) c.args.a c.args.b rows in
    parts_after edit before network labels (marked (ids_of network) new)
    refl c.in_ok-link.ensures.ok refl
    (touched_now rows network c.link.ensures.was_valid c.unsettle_ends.ensures.valid labels labels ids old new
    c.self.invariant.a_flag (same_many rows network ids old c.self.invariant.a_flag)
    (λ node. (c.args.a == node) || (c.args.b == node)) c.unsettle_ends.ensures.touched kept)
    ∙ ap (snapshot_after edit) c.self.view_is

pub returns-clause-current : goal.returns-clause-current
returns-clause-current c = λ judge current.
    let rows = c.self.inside.net in
    let labels = c.self.inside.labels in
    let old = c.self.inside.flags.items in
    let network = c.link.new.net in
    let passes : ℕ → Bool = λ node. (c.args.a == node) || (c.args.b == node) in
    let ids : ids_of network ≡ ids_of rows =
    ap ids_of c.in_ok-link.ensures.ok ∙ ids_of_ends (linking c.args.weight) (λ id row. refl) c.args.a c.args.b rows in
    let stays : Stays passes rows network =
    subst (λ (network : List NodeRow). Stays passes rows network) (sym c.in_ok-link.ensures.ok)
    (ends_stay (linking c.args.weight) (λ id row. refl) c.args.a c.args.b rows) in
    current_now rows network c.link.ensures.was_valid c.unsettle_ends.ensures.valid labels labels ids old
    c.unsettle_ends.new.flags.items c.self.invariant.a_flag
    (same_many rows network ids old c.self.invariant.a_flag) passes c.unsettle_ends.ensures.touched
    c.self.inside.kept.items (stays_alike passes rows network labels ids stays) judge
    (subst (λ (now : Snapshot). IsCurrent judge now) (sym c.self.view_is) current)
