use Rattle.std.proofs.Common.{◌≡◌}
use Rattle.pls_scheme.specs.Judging.{RoseByAtMost}
use Rattle.pls_watch.specs.inner.Current.{IsCurrent}
use Rattle.pls_watch.specs.inner.Known.{IsTable}
use Rattle.pls_watch.proofs.Current.{AreNow}
use Rattle.pls_watch.proofs.watch.Watch.renew_all.Given as goal

abbrev pub invariant-loop-i : goal.invariant-loop-i
invariant-loop-i g l = record {
  current : IsCurrent (g.K.Checker.judge l.checker) l.self l.changes l.shown.rows;
  table : IsTable l.self l.room.table.items;
  kept : l.shown.kept ≡ l.fn.shown.kept;
  now : AreNow (g.K.Checker.judge l.checker) l.self l.i l.shown.rows;
  rose : RoseByAtMost l.i l.fn.steps l.steps;
}
