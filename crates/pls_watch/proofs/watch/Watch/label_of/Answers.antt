use Rattle.std.proofs.Common.{◌∙◌, ◌≤◌, List, [], slice_get, sym, ap, subst}
use Rattle.std.proofs.lemmas.Option.{get_or_from_slice_get}
use Rattle.pls_graph.proofs.Finds.{item_at}
use Rattle.pls_watch.specs.declared.turn.Turn.{Turn}
use Rattle.pls_watch.specs.Labelled.{turns_of}
use Rattle.pls_watch.specs.Versions.{newest}
use Rattle.pls_watch.specs.Watching.{Watched, version_of_label}
use Rattle.pls_watch.proofs.Numbers.{label_within}
use Rattle.pls_watch.proofs.Stocked.{label_in_store, number_within, turns_are}
use Rattle.pls_watch.proofs.watch.Watch.label_of.Goals as goal

pub number_of-number-requires-clause-version : goal.number_of-number-requires-clause-version
number_of-number-requires-clause-version c = λ row stands.
    let old = c.self.inside in
    subst (λ (turns : List Turn). c.args.version ≤ newest turns row.id)
    (ap (λ (watched : Watched). turns_of watched.events) (sym c.self.view_is)
    ∙ turns_are old.versions old.labels old.most_relabels old.most_bits)
    (c.requires.version row
    (ap (λ (watched : Watched). slice_get watched.network c.args.i) (sym c.self.view_is) ∙ stands))

pub bits-requires : goal.bits-requires
bits-requires c =
    let old = c.self.inside in
    let row = item_at c.args.self.now.network c.args.i c.requires.place in
    number_within old.versions old.labels old.most_relabels old.most_bits old.net.now old.relabels old.relabel_bits
    c.self.invariant c.number_of-number.result
    (label_within old.versions.network old.versions.turns row.0.id c.args.version
    c.number_of-number.result
    (c.number_of-number.ensures row.0
    (ap (λ (watched : Watched). slice_get watched.network c.args.i) c.self.view_is ∙ row.1)))

pub returns : goal.returns
returns c = λ row stands.
    let old = c.self.inside in
    sym (get_or_from_slice_get old.labels.labels c.number_of-number.result c.bits.result []
    c.bits.ensures)
    ∙ label_in_store old.versions old.labels old.most_relabels old.most_bits old.net.now old.relabels
    old.relabel_bits
    c.self.invariant row.id c.args.version c.number_of-number.result
    (c.number_of-number.ensures row
    (ap (λ (watched : Watched). slice_get watched.network c.args.i) c.self.view_is ∙ stands))
    ∙ ap (λ (watched : Watched). version_of_label watched row.id c.args.version) c.self.view_is
