use Rattle.std.proofs.Common.{◌≡◌, map, take}
use Rattle.pls_scheme.specs.Judging.{RoseByAtMost}
use Rattle.pls_watch.specs.Watching.{outcome_in, stale_in}
use Rattle.pls_watch.specs.inner.Known.{IsTable}
use Rattle.pls_watch.proofs.watch.Watch.outcomes.Given as goal

abbrev pub invariant-loop-i : goal.invariant-loop-i
invariant-loop-i g l = IsTable l.self l.table.items
    × RoseByAtMost l.i l.initial.steps l.steps
    × (l.rows.items ≡ map (λ row. (
      row.id,
      outcome_in (g.K.Checker.judge l.checker) l.self row,
      stale_in l.self row,
    )) (take l.i l.self.network))
