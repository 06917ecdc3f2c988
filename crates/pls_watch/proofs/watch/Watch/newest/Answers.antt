use Rattle.std.proofs.Common.{◌∙◌, List, slice_get, sym, ap}
use Rattle.pls_watch.specs.Labelled.{turns_of}
use Rattle.pls_watch.specs.Versions.{newest}
use Rattle.pls_watch.specs.Watching.{Watched}
use Rattle.pls_watch.specs.declared.turn.Turn.{Turn}
use Rattle.pls_watch.proofs.Stocked.{turns_are}
use Rattle.pls_watch.proofs.watch.Watch.newest.Goals as goal

pub returns : goal.returns
returns c = λ row stands.
    let old = c.self.inside in
    c.newest.ensures.version row
    (ap (λ (watched : Watched). slice_get watched.network c.args.i) c.self.view_is ∙ stands)
    ∙ ap (λ (turns : List Turn). newest turns row.id)
    (sym (turns_are old.versions old.labels old.most_relabels old.most_bits))
    ∙ ap (λ (watched : Watched). newest (turns_of watched.events) row.id) c.self.view_is
