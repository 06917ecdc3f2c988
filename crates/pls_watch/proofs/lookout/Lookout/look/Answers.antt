use Rattle.std.proofs.Common.{◌∙◌, ℕ, ap, length, replicate, sym}
use Rattle.pls_watch.specs.declared.change.Change.{Change}
use Rattle.pls_watch.specs.declared.change.Change.TheVariants.{Nothing}
use Rattle.pls_watch.proofs.Current.{current_look}
use Rattle.pls_watch.proofs.lookout.Lookout.look.Goals as goal

pub invariant_of-self-2 : goal.invariant_of-self-2
invariant_of-self-2 g c =
    let inside = c.self.inside in
    let done = c.in_ok-renew_all.ensures in
    current_look (g.K.Checker.judge inside.checker.now) inside.watch c.forget.new.changes.items
    c.renew_all.new.shown.rows
    (c.forget.ensures
    ∙ ap (λ (count : ℕ). replicate count Nothing)
    (ap (length {A = Change}) (sym c.as_slice-changes.ensures.value)
    ∙ done.current.each ∙ sym done.current.all))
    done.rows
