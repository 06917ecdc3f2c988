use Rattle.std.proofs.Common.{◌≡◌, ◌∙◌, ◌++◌, ◌∷◌, [], ℕ, List, Some, get_or, slice_get, ap, sym}
use Rattle.pls_configuration.specs.declared.row.NodeRow.{NodeRow}
use Rattle.pls_graph.proofs.Finds.{item_at}
use Rattle.pls_components.proofs.Items.{items-more}
use Rattle.pls_components.proofs.component_list.rows_of.Goals as goal

pub loop-place-preserved : goal.loop-place-preserved
loop-place-preserved c =
    let net = c.args.net.now in
    let places = c.args.places.now in
    let i = c.loop-place.place-index in
    let place : ℕ = get_or places i 0 in
    let (row, at) : (row : NodeRow) × (slice_get net place ≡ Some row) =
    item_at net place (c.requires i 0 c.loop-place-test.true) in
    c.in_ok-put_row.ensures row at
    ∙ ap (λ (rows : List NodeRow). rows ++ row ∷ []) c.loop-place.invariant
    ∙ sym (items-more net places i 0 row c.loop-place-test.true at)
