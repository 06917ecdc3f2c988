use Rattle.std.proofs.Common.{length}
use Rattle.pls_lines.specs.inner.ListScan.{KeepsItems}
use Rattle.pls_lines.proofs.list_read.keep_items.Given as goal

abbrev pub invariant-loop-item : goal.invariant-loop-item
invariant-loop-item g l =
    KeepsItems g.T.Item.LineKind.written g.T.ListTally.Are g.T.ListTally.tally g.T.Keep.line
    l.fn.lines l.lines l.kept l.list.items

abbrev pub decreases-loop-item : goal.decreases-loop-item
decreases-loop-item g l = length l.lines.rest
