use Rattle.std.proofs.Common.{◌∙◌, ℕ, List, option_map, slice_get, sym, ap}
use Rattle.pls_watch.specs.declared.label_version.LabelVersion.{LabelVersion}
use Rattle.pls_watch.specs.Labelled.{turns_of}
use Rattle.pls_watch.specs.Versions.{held}
use Rattle.pls_watch.specs.Watching.{Watched}
use Rattle.pls_watch.specs.declared.turn.Turn.{Turn}
use Rattle.pls_watch.proofs.Stocked.{turns_are}
use Rattle.pls_watch.proofs.watch.Watch.held_version.Goals as goal

pub returns-in-Some : goal.returns-in-Some
returns-in-Some c = λ row at stands has.
    let old = c.self.inside in
    ap (option_map (λ (label : LabelVersion). label.version)) (sym c.in-Some.is)
    ∙ c.held_version.ensures.version row at
    (ap (λ (watched : Watched). slice_get watched.network c.args.i) c.self.view_is ∙ stands) has
    ∙ ap (λ (turns : List Turn). held old.versions.network turns row.id at.nbr)
    (sym (turns_are old.versions old.labels old.most_relabels old.most_bits))
    ∙ ap (λ (watched : Watched). held watched.network (turns_of watched.events) row.id at.nbr)
    c.self.view_is

pub returns-in-None : goal.returns-in-None
returns-in-None c = λ row at stands has.
    let old = c.self.inside in
    ap (option_map (λ (label : LabelVersion). label.version)) (sym c.in-None.is)
    ∙ c.held_version.ensures.version row at
    (ap (λ (watched : Watched). slice_get watched.network c.args.i) c.self.view_is ∙ stands) has
    ∙ ap (λ (turns : List Turn). held old.versions.network turns row.id at.nbr)
    (sym (turns_are old.versions old.labels old.most_relabels old.most_bits))
    ∙ ap (λ (watched : Watched). held watched.network (turns_of watched.events) row.id at.nbr)
    c.self.view_is
