use Rattle.pls_lines.proofs.ListKept.{one_item_kept}
use Rattle.pls_lines.proofs.list_read.keep_items.Goals as goal

pub loop-item-preserved : goal.loop-item-preserved
loop-item-preserved g c =
    rw c.in-Ok-push.ensures.items (one_item_kept g.T.Item.LineKind.Fits g.T.Item.LineKind.written
    g.T.ListTally.Are g.T.ListTally.tally g.T.Keep.line _ _ _ _ _ _ c.in-Some.item
    c.in-Ok-line_of.line c.loop-item.invariant c.in-Some.ensures.passed
    c.if-not-take.ensures.begun c.if-not-take.ensures.counted c.in-Ok-line_of.ensures)
