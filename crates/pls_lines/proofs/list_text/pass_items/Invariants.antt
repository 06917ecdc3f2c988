use Rattle.std.proofs.Common.{length}
use Rattle.pls_lines.specs.inner.ListScan.{PassesItems}
use Rattle.pls_lines.proofs.list_text.pass_items.Given as goal

abbrev pub invariant-loop : goal.invariant-loop
invariant-loop g l = PassesItems g.T.Item.LineKind.written g.T.ListTally.Are g.T.ListTally.tally l.fn.lines l.lines l.kept

abbrev pub decreases-loop : goal.decreases-loop
decreases-loop g l = length l.lines.rest
