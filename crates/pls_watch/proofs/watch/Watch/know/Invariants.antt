use Rattle.std.proofs.Common.{◌≡◌, ◌++◌, Some, slice_get, drop}
use Rattle.pls_configuration.specs.declared.row.NodeRow.{NodeRow}
use Rattle.pls_sim.specs.Schedule.{has_heard, unheard, failing_from}
use Rattle.pls_watch.specs.Labelled.{turns_of}
use Rattle.pls_watch.specs.Versions.{is_fresh, plain_of}
use Rattle.pls_watch.specs.Watching.{stale_in}
use Rattle.pls_watch.specs.inner.Known.{AreKnown, IsTable}
use Rattle.pls_watch.proofs.watch.Watch.know.Given as goal

abbrev pub invariant-loop-port : goal.invariant-loop-port
invariant-loop-port l = record {
  table : IsTable l.self l.table.items;
  known : (row : NodeRow) → slice_get l.self.network l.i ≡ Some row
      → AreKnown l.self.network (turns_of l.self.events) l.i row l.port l.table.items;
  unheard : (row : NodeRow) → slice_get l.self.network l.i ≡ Some row
      → unheard l.self.network (plain_of (turns_of l.self.events)) row
      ≡ l.unheard.items
      ++ failing_from (has_heard l.self.network (plain_of (turns_of l.self.events)) row.id) l.port
      (drop l.port row.ports);
  stale : (row : NodeRow) → slice_get l.self.network l.i ≡ Some row
      → stale_in l.self row
      ≡ l.stale.items
      ++ failing_from (is_fresh l.self.network (turns_of l.self.events) row.id) l.port
      (drop l.port row.ports);
}
