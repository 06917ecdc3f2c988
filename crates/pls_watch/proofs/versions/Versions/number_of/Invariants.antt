use Rattle.std.proofs.Common.{◌≡◌, ◌≤◌, Some, slice_get}
use Rattle.pls_configuration.specs.declared.row.NodeRow.{NodeRow}
use Rattle.pls_watch.specs.inner.Numbers.{IsLabel}
use Rattle.pls_watch.proofs.versions.Versions.number_of.Given as goal

abbrev pub invariant-loop-at : goal.invariant-loop-at
invariant-loop-at l = (row : NodeRow) → slice_get l.self.network l.i ≡ Some row
    → IsLabel l.self.network l.self.turns row.id l.at l.number × (l.version ≤ l.at)

abbrev pub decreases-loop-at : goal.decreases-loop-at
decreases-loop-at l = l.at
