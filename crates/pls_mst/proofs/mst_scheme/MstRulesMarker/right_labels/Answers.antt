use Rattle.std.proofs.Common.{ℕ, List, length, subst}
use Rattle.pls_levels.specs.Making.{AreMade}
use Rattle.pls_mst.proofs.Made.{made_right}
use Rattle.pls_mst.proofs.mst_scheme.MstRulesMarker.right_labels.Goals as goal

pub returns-clause-right : goal.returns-clause-right
returns-clause-right g c =
    let rows = c.args.net.now in
    let only = rw c.in-Some.is at (c.in_ok-root.ensures.root) in
    let deep = rw c.in-Some.is at (c.in_ok-root.ensures.depths) in
    let are = rw c.in-Some-2.is at (c.in_ok-lists.ensures.levels) in
    let labels = c.in_ok-labels.labels.items in
    made_right rows c.in-Some.root c.in-Some.depths.items c.in-Some-2.lists
    c.root_and_depths.ensures.valid only deep are labels
    (subst (λ (depths : List ℕ). AreMade rows c.in-Some.root depths c.in-Some-2.lists
    (length rows) labels) c.deref.ensures.value c.in_ok-labels.ensures)
