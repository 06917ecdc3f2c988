use Rattle.std.proofs.Common.{◌∙◌, List, slice_get, sym, ap}
use Rattle.pls_graph.proofs.Finds.{item_at}
use Rattle.pls_watch.specs.declared.turn.Turn.{Turn}
use Rattle.pls_watch.specs.Labelled.{turns_of}
use Rattle.pls_watch.specs.Versions.{stale}
use Rattle.pls_watch.specs.Watching.{Watched}
use Rattle.pls_sim.proofs.Unheard.{on_err}
use Rattle.pls_watch.proofs.Looked.{stale_rise}
use Rattle.pls_watch.proofs.Stocked.{turns_are}
use Rattle.pls_watch.proofs.watch.Watch.stale.Goals as goal

pub from_vec-requires : goal.from_vec-requires
from_vec-requires c =
    let old = c.self.inside in
    let row = item_at c.args.self.now.network c.args.i c.requires in
    stale_rise old.versions.network old.versions.turns row.0 c.in_ok-numbers.numbers.items
    (c.in_ok-numbers.ensures.ports row.0
    (ap (λ (watched : Watched). slice_get watched.network c.args.i) c.self.view_is ∙ row.1))

pub returns-clause-ports : goal.returns-clause-ports
returns-clause-ports c = λ row stands.
    let old = c.self.inside in
    c.from_vec.ensures
    ∙ c.in_ok-numbers.ensures.ports row
    (ap (λ (watched : Watched). slice_get watched.network c.args.i) c.self.view_is ∙ stands)
    ∙ ap (λ (turns : List Turn). stale old.versions.network turns row)
    (sym (turns_are old.versions old.labels old.most_relabels old.most_bits))
    ∙ ap (λ (watched : Watched). stale watched.network (turns_of watched.events) row) c.self.view_is

pub returns-in_err-numbers-clause-no_memory : goal.returns-in_err-numbers-clause-no_memory
returns-in_err-numbers-clause-no_memory c =
    let old = c.self.inside in
    on_err c.from_residual.result _ (λ row stands none.
    c.in_err-numbers.ensures.no_memory row
    (ap (λ (watched : Watched). slice_get watched.network c.args.i) c.self.view_is ∙ stands)
    (ap (λ (turns : List Turn). stale old.versions.network turns row)
    (sym (turns_are old.versions old.labels old.most_relabels old.most_bits))
    ∙ ap (λ (watched : Watched). stale watched.network (turns_of watched.events) row) c.self.view_is
    ∙ none))
