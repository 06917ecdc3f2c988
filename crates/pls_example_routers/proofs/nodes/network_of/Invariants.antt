use Rattle.std.proofs.Common.{◌≡◌, length, All}
use Rattle.pls_example_routers.specs.SmallRow.{IsSmallRow}
use Rattle.pls_example_routers.proofs.nodes.network_of.Given as goal

abbrev pub invariant-loop-i : goal.invariant-loop-i
invariant-loop-i l = (length l.rows.items ≡ l.i) × All IsSmallRow l.rows.items
