use Rattle.std.proofs.Common.{sym, subst}
use Rattle.pls_watch.specs.Watching.{Watched}
use Rattle.pls_watch.specs.inner.Current.{IsCurrent, IsNoted}
use Rattle.pls_watch.proofs.Current.{current_next}
use Rattle.pls_watch.proofs.lookout.Lookout.step.Goals as goal

pub invariant_of-self-2 : goal.invariant_of-self-2
invariant_of-self-2 g c =
    let old = c.self.inside in
    let judge = g.K.Checker.judge old.checker.now in
    let event = c.args.event.now in
    let place = c.in_ok-place.place in
    let change = c.in_ok-place.ensures in
    let new = c.note.new.changes.items in
    let taken = change.taken in
    let noted = subst (λ (watched : Watched). IsNoted watched event place old.changes.items new)
    taken c.note.ensures in
    subst (λ (watched : Watched). IsCurrent judge watched new old.shown.rows) (sym taken)
    (current_next judge old.watch event place change.valid change.applies old.changes.items new
    old.shown.rows c.self.invariant noted change.others)
