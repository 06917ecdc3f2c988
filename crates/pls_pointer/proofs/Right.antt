-- What the markers write is right.
use Rattle.std.proofs.Common.{◌≡◌, ◌∙◌, ℕ, List, Contains, Some, None, map, slice_get, sym, subst}
use Rattle.pls_configuration.specs.declared.row.NodeRow.{NodeRow}
use Rattle.pls_configuration.specs.Configuration.{IsNetwork}
use Rattle.pls_graph.proofs.Members.{Contains-from_place}
use Rattle.pls_search.specs.Depths.{AreDepths}
use Rattle.pls_scheme.specs.Marked.{AreRight}
use Rattle.pls_scheme.proofs.Markings.{IsSaidBy, right_map, said_by_id}
use Rattle.pls_facts.specs.OnlyNode.{IsOnly, points_at_none}
use Rattle.pls_facts.specs.Pointer.{IsChainOf}
use Rattle.pls_facts.specs.SpanningTree.{IsTree}
use Rattle.pls_facts.proofs.Roots.{is_root-None}
use Rattle.pls_facts.proofs.Trees.{IsTree-falling}
use Rattle.pls_pointer.specs.Forest.{forest_says}
use Rattle.pls_pointer.specs.inner.Saying.{forest_label_at}
use Rattle.pls_pointer.specs.Tree.{tree_says}
use Rattle.pls_pointer.specs.inner.Saying.{root_says}
use Rattle.pls_facts.proofs.ChainDepths.{chain_end, chains_fall}

module _ (rows : List NodeRow) (depths : List ℕ) (are : AreDepths rows depths) where
  -- the lengths of the chains
  pub forest_right : AreRight (forest_says rows) rows (map forest_label_at depths)
  forest_right = right_map (forest_says rows) rows forest_label_at depths are.each
      (λ place row depth at has. are.depth row place depth at has)

  -- and the root's identity
  pub tree_right : IsNetwork rows → (root : ℕ) → IsOnly points_at_none rows root
      → AreRight (tree_says rows) rows (map (root_says root) depths)
  tree_right net root only = right_map (tree_says rows) rows (root_says root) depths are.each right
    where
      right : (place : ℕ) (row : NodeRow) (depth : ℕ) → slice_get rows place ≡ Some row
          → slice_get depths place ≡ Some depth → tree_says rows row (root_says root depth)
      right place row depth at has other other_in none =
          let (last, chain) : (last : ℕ) × IsChainOf rows row.id last depth =
          are.depth row place depth at has in
          let (end, end_in, end_none, is_last) : (end : NodeRow) × Contains rows end
          × (end.state.up ≡ None) × (end.id ≡ last) =
          chain_end rows net row (Contains-from_place rows place row at) last depth chain in
          let is_root : other.id ≡ root = only.named other other_in (is_root-None other none) in (
            sym is_root,
            subst (λ (last : ℕ). IsChainOf rows row.id last depth)
                (sym is_last ∙ only.named end end_in (is_root-None end end_none) ∙ sym is_root) chain,
          )

  -- where one node has no pointer, the pointers make a tree
  pub IsTree-depths : IsNetwork rows → (root : ℕ) → IsOnly points_at_none rows root → IsTree rows
  IsTree-depths net root only =
      let said : IsSaidBy (forest_says rows) rows (map forest_label_at depths) =
      said_by_id (forest_says rows) rows net (map forest_label_at depths) forest_right in
      IsTree-falling rows net (λ id. (said.say id).depth)
      (chains_fall rows net (λ id. (said.say id).depth) said.right) root
      (λ row in' none. only.named row in' (is_root-None row none))
