use Rattle.std.proofs.Common.{◌≡◌, ◌∙◌, ◌++◌, ◌∷◌, [], ℕ, List, take, Some, slice_get, sym, ap}
use Rattle.std.proofs.lemmas.List.{map_more}
use Rattle.std.proofs.lemmas.Option.{get_or_from_slice_get, slice_get_within}
use Rattle.pls_configuration.specs.declared.row.NodeRow.{NodeRow}
use Rattle.pls_configuration.specs.Configuration.{ids_of}
use Rattle.pls_graph.proofs.Finds.{from_option_map}
use Rattle.pls_sim.proofs.ways.ids_of.Goals as goal

pub loop-i-preserved : goal.loop-i-preserved
loop-i-preserved c =
    let rows = c.args.net.now in
    let i : ℕ = c.loop-i.i in
    let row : (row : NodeRow) × (slice_get rows i ≡ Some row) × (row.id ≡ c.node.result.0) =
    from_option_map (λ (row : NodeRow). row.id) (slice_get rows i) c.node.result.0
    c.node.ensures.id in
    c.in_ok-push.ensures.items
    ∙ ap (λ (ids : List ℕ). ids ++ c.node.result.0 ∷ []) c.loop-i.invariant
    ∙ ap (λ (id : ℕ). ids_of (take i rows) ++ id ∷ []) (sym row.2)
    ∙ sym (map_more (λ (row : NodeRow). row.id) rows i row.0 (slice_get_within rows i row.0 row.1)
    ∙ ap (λ (row : NodeRow). ids_of (take i rows) ++ row.id ∷ [])
    (get_or_from_slice_get rows i row.0 row.0 row.1))
