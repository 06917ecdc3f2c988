use Rattle.std.proofs.Common.{◌≡◌, ◌<◌, ◌∙◌, Some, ap, arith, length, slice_get}
use Rattle.std.proofs.lemmas.Option.{slice_get-get_or}
use Rattle.std.proofs.lemmas.Result.{on_ok_weaker}
use Rattle.pls_watch.specs.declared.change.Change.TheVariants.{Nothing, Beside}
use Rattle.pls_watch.proofs.Current.{renewed_nothing, renewed_row, renewed_stale}
use Rattle.pls_watch.proofs.watch.Watch.renew.Goals as goal

pub returns-in-Nothing-clause-renewed : goal.returns-in-Nothing-clause-renewed
returns-in-Nothing-clause-renewed g c =
    let changes = c.args.changes.now in
    let current = c.requires.current in
    let within : c.args.i < length changes = omega (arith, c.requires.place, current.each) in
    renewed_nothing (g.K.Checker.judge c.args.checker.now) c.args.self.now changes c.args.i
    c.args.shown.now.rows current
    (slice_get-get_or changes c.args.i Nothing within ∙ ap Some c.in-Nothing.is)

pub returns-in-Beside-clause-renewed : goal.returns-in-Beside-clause-renewed
returns-in-Beside-clause-renewed g c =
    let changes = c.args.changes.now in
    let place = c.args.i in
    let current = c.requires.current in
    let within : place < length changes = omega (arith, c.requires.place, current.each) in
    let is : slice_get changes place ≡ Some Beside =
    slice_get-get_or changes place Nothing within ∙ ap Some c.in-Beside.is in
    on_ok_weaker c.renew_stale.result
    (renewed_stale (g.K.Checker.judge c.args.checker.now) c.args.self.now changes place
    c.args.shown.now.rows current c.renew_stale.new.shown.rows c.requires.place is)
    c.renew_stale.ensures.stale

pub returns-in-Held-clause-renewed : goal.returns-in-Held-clause-renewed
returns-in-Held-clause-renewed g c =
    on_ok_weaker c.renew_row.result
    (renewed_row (g.K.Checker.judge c.args.checker.now) c.args.self.now c.args.changes.now
    c.args.i c.args.shown.now.rows c.requires.current c.renew_row.new.shown.rows
    c.requires.place)
    c.renew_row.ensures.row
