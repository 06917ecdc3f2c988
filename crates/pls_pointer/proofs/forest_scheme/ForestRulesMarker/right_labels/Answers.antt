use Rattle.pls_pointer.proofs.Right.{forest_right}
use Rattle.pls_pointer.proofs.forest_scheme.ForestRulesMarker.right_labels.Goals as goal

pub returns-clause-right : goal.returns-clause-right
returns-clause-right g c =
    let are = rw c.in-Some.is at (c.in_ok-depths.ensures.depths) in
    rw (c.in_ok-labels.ensures, c.deref.ensures.value)
    (forest_right c.args.net.now c.in-Some.depths.items are)
