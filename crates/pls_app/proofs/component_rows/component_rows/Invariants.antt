use Rattle.std.proofs.Common.{◌≡◌, take}
use Rattle.pls_app.specs.ComponentRows.{component_rows}
use Rattle.pls_app.proofs.component_rows.component_rows.Given as goal

abbrev pub invariant-loop-k : goal.invariant-loop-k
invariant-loop-k l = l.rows.items ≡ component_rows l.net (take l.k l.parts) l.outcomes
