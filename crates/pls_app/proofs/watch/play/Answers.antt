use Rattle.std.proofs.Common.{◌∙◌, ◌++◌, ap, subst, sym}
use Rattle.pls_configuration.specs.declared.verdict.Verdict.{Verdict}
use Rattle.pls_labels.specs.Seen.{Seen}
use Rattle.pls_watch_part.specs.declared.watch_event.WatchLine.{WatchLine}
use Rattle.pls_app.specs.inner.Watching.{AreShown, shown_at}
use Rattle.pls_app.proofs.WatchPlay.{applies_so, played_on}
use Rattle.pls_app.proofs.watch.play.Goals as goal

pub loop-line-preserved : goal.loop-line-preserved
loop-line-preserved g c =
    let judge = g.K.Checker.judge c.args.lookout.now.checker in
    let old = c.loop-line.lookout.watched in
    let line : WatchLine = c.in-Some.line in
    let step = c.in_ok-applies.ensures in
    let (checker, played) = c.loop-line.invariant in (
      step.checker ∙ checker,
      played_on judge c.args.lookout.now.watched.network c.args.lookout.now.watched.start c.args.lines
          c.loop-line.place line c.loop-line.lines c.take.new.self old c.take_line.new.lookout.watched
          c.loop-line.lookout.kept c.take_line.new.lookout.kept c.loop-line.well c.take_line.new.well
          played c.in-Some.ensures.line (step.taken c.if-not-applies.false)
          (applies_so _ (sym step.refused ∙ c.if-not-applies.false))
          (λ looks are. subst (λ (by : Seen → Verdict). AreShown c.take_line.new.lookout.kept
          c.take_line.new.well (looks ++ shown_at by old line)) (ap g.K.Checker.judge checker)
          (step.shown looks are)),
    )
