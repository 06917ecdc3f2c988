use Rattle.std.proofs.Common.{◌∙◌, ◌+◌, arith}
use Rattle.pls_watch.proofs.Current.{look_now, now_all, renewed_current, renewed_now}
use Rattle.pls_watch.proofs.Looked.{rose_more, rose_within}
use Rattle.pls_watch.proofs.watch.Watch.renew_all.Goals as goal

pub loop-i-preserved : goal.loop-i-preserved
loop-i-preserved g c =
    let judge = g.K.Checker.judge c.args.checker.now in
    let watched = c.args.self.now in
    let old = c.loop-i.shown.rows in
    let new = c.renew.new.shown.rows in
    let before = c.loop-i.invariant in
    let renewed = c.in_ok-renew.ensures.renewed in
    record {
      current = renewed_current judge watched c.loop-i.i old new renewed c.args.changes.now
          before.current;
      table = c.renew.ensures.table;
      kept = c.renew.ensures.kept ∙ before.kept;
      now = renewed_now judge watched c.loop-i.i old new renewed before.now;
      rose = rose_more c.loop-i.i _ _ _ before.rose c.renew.ensures.few_steps;
    }

pub returns-clause-rows : goal.returns-clause-rows
returns-clause-rows g c =
    let judge = g.K.Checker.judge c.args.checker.now in
    let watched = c.args.self.now in
    let shown = c.loop-i.shown.rows in
    let before = c.loop-i.invariant in
    look_now judge watched shown before.current.all
    (now_all judge watched c.loop-i.i shown
    (omega (arith, c.loop-i-test.false, before.current.each)) before.now)

pub returns-in_err-renew-clause-few_steps : goal.returns-in_err-renew-clause-few_steps
returns-in_err-renew-clause-few_steps g c =
    rose_within (c.loop-i.i + 1) _ _ _
    (omega (arith, c.loop-i-test.true, c.loop-i.invariant.current.each))
    (rose_more c.loop-i.i _ _ _ c.loop-i.invariant.rose c.renew.ensures.few_steps)

pub returns-in_err-renew-clause-kept : goal.returns-in_err-renew-clause-kept
returns-in_err-renew-clause-kept g c = c.renew.ensures.kept ∙ c.loop-i.invariant.kept
