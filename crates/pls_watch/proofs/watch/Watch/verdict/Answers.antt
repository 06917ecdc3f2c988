use Rattle.std.proofs.Common.{◌≡◌, ◌∙◌, Bool, List, [], Some, slice_get, sym, ap, subst}
use Rattle.std.proofs.lemmas.Option.{same_Some}
use Rattle.pls_configuration.specs.declared.verdict.Verdict.{Verdict}
use Rattle.pls_configuration.specs.declared.row.NodeRow.{NodeRow}
use Rattle.pls_configuration.specs.Configuration.{IsNetwork}
use Rattle.pls_labels.specs.Seen.{label_of, seen, views}
use Rattle.pls_labels.proofs.Views.{view_at}
use Rattle.pls_sim.specs.Schedule.{unheard}
use Rattle.pls_watch.specs.Labelled.{turns_of}
use Rattle.pls_watch.specs.Versions.{known, plain_of}
use Rattle.pls_watch.specs.Watching.{Watched, version_of_label}
use Rattle.pls_watch.specs.inner.Known.{known_labels}
use Rattle.pls_watch.proofs.Looked.{if_ok, known_seen}
use Rattle.pls_watch.proofs.Stocked.{label_seen}
use Rattle.pls_watch.proofs.watch.Watch.verdict.Goals as goal

pub returns-clause-verdict : goal.returns-clause-verdict
returns-clause-verdict g c =
    let old = c.self.inside in
    let now = c.args.self.now in
    let judge = g.K.Checker.judge c.args.checker.now in
    let labels : List (List Bool) = known_labels old.labels.labels c.args.table.now in
    let network : old.net.now ≡ now.network =
    sym c.self.invariant.network ∙ ap (λ (watched : Watched). watched.network) c.self.view_is in
    if_ok (λ (verdict : Verdict). verdict ≡ judge c.in_ok-view.view) (λ (verdict : Verdict). (row :
    NodeRow)
    → slice_get now.network c.args.i ≡ Some row
    → unheard now.network (plain_of (turns_of now.events)) row ≡ []
    → verdict ≡ judge (seen (λ other. version_of_label now other
    (known now.network (turns_of now.events) row.id other)) row)) c.verify.result
    (λ verdict is row stands heard.
    let view : c.in_ok-view.view ≡ seen (label_of now.network labels) row =
    same_Some c.in_ok-view.view (seen (label_of now.network labels) row)
    (sym c.in_ok-view.ensures.shows
    ∙ ap (λ (rows : List NodeRow). slice_get (views rows c.of-labels.result) c.args.i) network
    ∙ ap (λ (labels : List (List Bool)). slice_get (views now.network labels) c.args.i)
    c.of-labels.ensures
    ∙ view_at now.network labels c.args.i row stands) in
    is ∙ ap judge (view ∙ known_seen now
    (subst (λ (watched : Watched). IsNetwork watched.network) c.self.view_is c.self.invariant.valid)
    old.labels.labels
    (label_seen old.versions old.labels old.most_relabels old.most_bits old.net.now old.relabels old.relabel_bits
    c.self.invariant now c.self.view_is)
    c.args.table.now c.requires.table c.args.i row stands (c.requires.known row stands) heard))
    c.verify.ensures.verdict
