use Rattle.pls_pointer.proofs.Right.{tree_right}
use Rattle.pls_pointer.proofs.tree_scheme.TreeRulesMarker.right_labels.Goals as goal

pub returns-clause-right : goal.returns-clause-right
returns-clause-right g c =
    let are = rw c.in-Some.is at (c.in_ok-root.ensures.depths) in
    let only = rw c.in-Some.is at (c.in_ok-root.ensures.root) in
    rw (c.in_ok-labels.ensures, c.deref.ensures.value)
    (tree_right c.args.net.now c.in-Some.depths.items are c.root_and_depths.ensures.valid
    c.in-Some.root only)
