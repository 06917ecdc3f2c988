use Rattle.std.proofs.Common.{◌≡◌, ◌∙◌, ℕ, Some, ap, get_or, slice_get, sym, take, arith}
use Rattle.pls_configuration.specs.declared.row.NodeRow.{NodeRow}
use Rattle.pls_graph.specs.declared.size.Size.{Size}
use Rattle.pls_graph.specs.Size.{size_of}
use Rattle.pls_graph.proofs.Finds.{item_at}
use Rattle.pls_components.specs.Components.{items_at}
use Rattle.pls_components.proofs.Items.{items-more}
use Rattle.pls_components.proofs.PartSize.{fewer_nodes, fewer_ports}
use Rattle.pls_components.proofs.part_size.size_at.Goals as goal

pub with_row-size-requires-clause-few_nodes : goal.with_row-size-requires-clause-few_nodes
with_row-size-requires-clause-few_nodes c =
    let so_far = ap (λ (size : Size). size.nodes) c.loop-place.invariant in
    let fewer = fewer_nodes c.args.net.now c.args.places.now c.loop-place.place-index
    c.requires.within in
    let few = c.requires.network.limits.few_nodes in
    omega (arith, so_far, fewer, few)

pub with_row-size-requires-clause-few_ports : goal.with_row-size-requires-clause-few_ports
with_row-size-requires-clause-few_ports c =
    let so_far = ap (λ (size : Size). size.ports) c.loop-place.invariant in
    let fewer = fewer_ports c.args.net.now c.args.places.now c.loop-place.place-index in
    let few = c.requires.network.limits.few_ports in
    omega (arith, so_far, fewer, few)

pub loop-place-preserved : goal.loop-place-preserved
loop-place-preserved c =
    let net = c.args.net.now in
    let places = c.args.places.now in
    let i = c.loop-place.place-index in
    let place : ℕ = get_or places i 0 in
    let (row, at) : (row : NodeRow) × (slice_get net place ≡ Some row) =
    item_at net place (c.requires.within i 0 c.loop-place-test.true) in
    c.with_row-size.ensures (items_at net (take i places)) row c.loop-place.invariant at
    ∙ ap size_of (sym (items-more net places i 0 row c.loop-place-test.true at))
