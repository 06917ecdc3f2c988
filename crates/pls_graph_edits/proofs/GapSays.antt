-- The place at which a new identity would stand, as a binary search among nodes finds it.
use Rattle.std.proofs.Common.{◌≡◌, ◌∙◌, ℕ, ◌<◌, true, ◌==◌, List, length, get_or, position, Some, None, Result, Ok, Err, IfSome, IfNone, is_some, option_map, sym, ap, subst, arith, slice_get}
use Rattle.std.specs.Result.{result_err}
use Rattle.std.specs.Cmp.{ranks}
use Rattle.std.specs.Ordering.{MatchOrdering, nat_cmp}
use Rattle.std.specs.List.Sorted.{IsBinarySearchResult, IsSearchInRange}
use Rattle.std.proofs.lemmas.Option.{slice_get-map, get_or_from_slice_get}
use Rattle.std.proofs.lemmas.List.{length-map}
use Rattle.pls_configuration.specs.declared.row.Port.{Port}
use Rattle.pls_configuration.specs.declared.row.NodeRow.{NodeRow}
use Rattle.pls_graph_edits.specs.inner.Gaps.{IsGap}
use Rattle.pls_graph.specs.inner.Ranges.{row_at, rows_at}
use Rattle.pls_graph_edits.proofs.JoinEdit.{is_gap}
use Rattle.pls_graph.specs.declared.table.Node.{Node}
use Rattle.pls_graph.specs.inner.Seeking.{AreRising}
use Rattle.pls_graph.proofs.Finds.{item_at}
use Rattle.pls_graph.proofs.Halved.{halved, higher, rise}

-- where none has the identity, the place at which it would stand
pub gap_says : (nodes : List Node) → AreRising nodes → (id : ℕ) (r : Result ℕ ℕ)
    → IsSearchInRange r (length nodes)
    → IsBinarySearchResult (λ (node : Node). nat_cmp node.id id) nodes r
    → IfSome (result_err r) (λ i. (ports : List Port) → IsGap id i (rows_at ports nodes))
    × IfSome (result_err r) (λ i. position (λ node. id == node.id) nodes ≡ None)
    × IfNone (result_err r) (is_some (position (λ node. id == node.id) nodes) ≡ true)
gap_says nodes rising id (Ok i) within found =
    let here = halved nodes rising id (Ok i) within found in (tt, tt, ap is_some (sym here))
gap_says nodes rising id (Err i) within found =
    let none = sym (halved nodes rising id (Err i) within found) in
    let parted = found (λ a b d le lt. higher (get_or nodes a d).id (get_or nodes b d).id id
    (rise nodes rising id a b d le lt)) in (
      (λ ports. is_gap id i (rows_at ports nodes)
          (let many = length-map nodes (row_at ports) in omega (arith, within))
          (λ k d less inside.
          let node : (node : Node) × (slice_get nodes k ≡ Some node) =
          item_at nodes k (let many = length-map nodes (row_at ports) in omega arith) in
          let row = row_of_node ports k node.0 d node.1 in
          let below = subst (λ o. MatchOrdering o ((get_or nodes k node.0).id < id)
          ((get_or nodes k node.0).id ≡ id) (id < (get_or nodes k node.0).id))
          (parted.0 k node.0 (omega arith) less) (ranks (get_or nodes k node.0).id id) in
          omega (arith, row))
          (λ k d from inside.
          let node : (node : Node) × (slice_get nodes k ≡ Some node) =
          item_at nodes k (let many = length-map nodes (row_at ports) in omega arith) in
          let row = row_of_node ports k node.0 d node.1 in
          let above = subst (λ o. MatchOrdering o ((get_or nodes k node.0).id < id)
          ((get_or nodes k node.0).id ≡ id) (id < (get_or nodes k node.0).id))
          (parted.1 k node.0 from (let many = length-map nodes (row_at ports) in omega arith))
          (ranks (get_or nodes k node.0).id id) in
          omega (arith, row))),
      none,
      tt,
    )
  where
    row_of_node : (ports : List Port) (k : ℕ) (node : Node) (d : NodeRow)
        → slice_get nodes k ≡ Some node
        → (get_or (rows_at ports nodes) k d).id ≡ (get_or nodes k node).id
    row_of_node ports k node d at =
        ap (λ (row : NodeRow). row.id) (get_or_from_slice_get (rows_at ports nodes) k (row_at ports node) d
        (slice_get-map (row_at ports) nodes k ∙ ap (option_map (row_at ports)) at))
        ∙ ap (λ (node : Node). node.id) (sym (get_or_from_slice_get nodes k node node at))
