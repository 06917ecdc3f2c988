use Rattle.std.proofs.Common.{◌≡◌, ◌∙◌, ℕ, ap, arith, length, replicate}
use Rattle.pls_watch.specs.declared.change.Change.TheVariants.{Nothing}
use Rattle.pls_watch.proofs.Current.{current_look}
use Rattle.pls_watch.proofs.lookout.Lookout.over.Goals as goal

pub invariant_of-result : goal.invariant_of-result
invariant_of-result g c =
    let rows = c.in_ok-rows.rows in
    let changes = c.in_ok-changes.changes in
    let shown = c.in_ok-shown.shown in
    let is = c.in_ok-shown.ensures.rows in
    let many : c.len.result ≡ length shown.rows =
    omega (arith, c.len.ensures, rows.ok.0, ap (length {A = _}) is) in
    current_look (g.K.Checker.judge c.args.checker.now) c.args.watch changes.items shown.rows
    (c.in_ok-changes.ensures ∙ ap (λ (count : ℕ). replicate count Nothing) many)
    (is ∙ c.in_ok-rows.ensures.look)
