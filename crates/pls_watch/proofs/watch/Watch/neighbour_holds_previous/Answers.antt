use Rattle.std.proofs.Common.{◌∙◌, List, slice_get, sym, ap}
use Rattle.pls_watch.specs.Labelled.{turns_of}
use Rattle.pls_watch.specs.Watching.{Watched}
use Rattle.pls_watch.specs.declared.turn.Turn.{Turn}
use Rattle.pls_watch.specs.inner.Current.{holds_previous}
use Rattle.pls_watch.proofs.Stocked.{turns_are}
use Rattle.pls_watch.proofs.watch.Watch.neighbour_holds_previous.Goals as goal

pub returns : goal.returns
returns c = λ row at stands has.
    let old = c.self.inside in
    c.neighbour_holds_previous.ensures row at
    (ap (λ (watched : Watched). slice_get watched.network c.args.i) c.self.view_is ∙ stands) has
    ∙ ap (λ (turns : List Turn). holds_previous old.versions.network turns at.nbr row.id)
    (sym (turns_are old.versions old.labels old.most_relabels old.most_bits))
    ∙ ap (λ (watched : Watched). holds_previous watched.network (turns_of watched.events) at.nbr row.id)
    c.self.view_is
