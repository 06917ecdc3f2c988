use Rattle.std.proofs.Common.{◌≡◌, ◌∙◌, ℕ, ap, Some, slice_get, sym, arith}
use Rattle.pls_configuration.specs.declared.row.State.{State}
use Rattle.pls_configuration.specs.declared.row.NodeRow.{NodeRow}
use Rattle.pls_graph.proofs.Finds.{item_at}
use Rattle.pls_facts.proofs.Lists.{given_at, map-take_more}
use Rattle.pls_scheme_tests.specs.declared.independent_set.MarkLabel.{MarkLabel}
use Rattle.pls_scheme_tests.specs.IndependentSet.{mark_of}
use Rattle.pls_scheme_tests.proofs.independent_set.marks_of.Goals as goal

-- the label of a mark
abbrev the_label : ℕ → MarkLabel
the_label mark = record { mark = mark }

pub loop-i-preserved : goal.loop-i-preserved
loop-i-preserved c =
    let rows = c.args.net.now in
    let (row, at) : (row : NodeRow) × (slice_get rows c.loop-i.i ≡ Some row) =
    item_at rows c.loop-i.i (let within = c.loop-i-test.true in
    omega (arith, within, c.len-i-end.ensures.len)) in
    let state : row.state ≡ c.node.result.1 =
    given_at (λ (row : NodeRow). row.state) (slice_get rows c.loop-i.i) row _
    c.node.ensures.state at in
    let mark : c.from.result ≡ row.state.mark =
    c.from.ensures ∙ ap (λ (state : State). state.mark) (sym state) in
    c.in_ok-push.ensures.items
    ∙ map-take_more mark_of rows c.loop-i.i row c.loop-i.labels.items (the_label c.from.result)
    c.loop-i.invariant at (ap the_label mark)
