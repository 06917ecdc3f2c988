use Rattle.std.proofs.Common.{◌≡◌, ◌∙◌, List, ap, map, take, Some, slice_get, sym, arith}
use Rattle.pls_configuration.specs.declared.row.Port.{Port}
use Rattle.pls_configuration.specs.declared.row.NodeRow.{NodeRow}
use Rattle.pls_graph.proofs.Finds.{item_at}
use Rattle.pls_facts.proofs.Lists.{given_at, map-take_more}
use Rattle.pls_example_weights.specs.SameWeights.{first_weights}
use Rattle.pls_example_weights.proofs.marker.all_weights.Goals as goal

pub loop-i-preserved : goal.loop-i-preserved
loop-i-preserved c =
    let rows = c.args.net.now in
    let (row, at) : (row : NodeRow) × (slice_get rows c.loop-i.i ≡ Some row) =
    item_at rows c.loop-i.i (let within = c.loop-i-test.true in
    omega (arith, within, c.len-i-end.ensures)) in
    let ports : row.ports ≡ c.ports.result.now =
    given_at (λ (row : NodeRow). row.ports) (slice_get rows c.loop-i.i) row _ c.ports.ensures at in
    let weights : c.weights_at.result ≡ first_weights row =
    c.weights_at.ensures
    ∙ ap (λ (ports : List Port). take 4 (map (λ (port : Port). port.weight) ports)) (sym ports) in
    c.in_ok-push.ensures.items
    ∙ map-take_more first_weights rows c.loop-i.i row c.loop-i.labels.items c.weights_at.result
    c.loop-i.invariant at weights
