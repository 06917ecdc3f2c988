use Rattle.std.proofs.Common.{List, length}
use Rattle.pls_lines.specs.ListPart.{Remains}
use Rattle.pls_lines.specs.inner.ListScan.{LeavesItems}
use Rattle.pls_lines.proofs.list_read.lines_of.Given as goal

abbrev pub invariant-loop-item : goal.invariant-loop-item
invariant-loop-item g l =
    (items : List g.row.T-Item.Denot)
    → Remains g.T.Item.LineKind.Fits g.T.Item.LineKind.written l.fn.lines.rest items
    → LeavesItems g.T.Item.LineKind.Fits g.T.Item.LineKind.written g.T.Keep.line items
    l.lines.rest l.list.items

abbrev pub decreases-loop-item : goal.decreases-loop-item
decreases-loop-item g l = length l.lines.rest
