-- Labels that are made of the root, the depths and levels that are right are right.
use Rattle.std.proofs.Common.{◌≡◌, ◌∙◌, ℕ, ◌+◌, ◌++◌, inl, inr, List, [], ◌∷◌, length, get_or, slice_get, Option, Some, option_map, refl, sym, ap, subst, arith, length-append}
use Rattle.std.specs.Option.{option_map_or}
use Rattle.std.proofs.lemmas.Option.{same_Some, slice_get-get_or, slice_get-map, slice_get_within}
use Rattle.pls_configuration.specs.declared.row.Port.{Port}
use Rattle.pls_configuration.specs.declared.row.NodeRow.{NodeRow}
use Rattle.pls_configuration.specs.Configuration.{IsNetwork}
use Rattle.pls_graph.proofs.Ranged.{at_push_cases}
use Rattle.pls_search.specs.Depths.{AreDepths}
use Rattle.pls_scheme.specs.Marked.{AreRight}
use Rattle.pls_facts.specs.OnlyNode.{IsOnly, points_at_none}
use Rattle.pls_graph.proofs.Finds.{item_at}
use Rattle.pls_pointer.specs.Tree.{tree_says}
use Rattle.pls_pointer.specs.inner.Saying.{root_says}
use Rattle.pls_pointer.proofs.Right.{tree_right}
use Rattle.pls_levels.specs.declared.label.LevelLabel.{LevelLabel}
use Rattle.pls_levels.specs.Making.{AreMade, IsMadeAt, IsRightHead, label_from}

module _ {S : Type 0} (rows : List NodeRow) (root : ℕ) (depths : List ℕ) (lists : List S) where
  -- one label more
  pub made_more : (levels : S) (count : ℕ) (labels : List (LevelLabel S)) (label : LevelLabel S)
      → slice_get lists count ≡ Some levels
      → ((row : NodeRow) → slice_get rows count ≡ Some row
      → label ≡ label_from root row (get_or depths count 0) levels)
      → AreMade rows root depths lists count labels
      → AreMade rows root depths lists (count + 1) (labels ++ label ∷ [])
  made_more levels count labels label has is made = record {
    each = let each = made.each in omega (arith, length-append labels (label ∷ []), each);
    label = λ place other at. elim (at_push_cases labels label place other at) [
      | inl last ↦ subst (λ (place : ℕ). IsMadeAt rows root depths lists place other)
          (sym (last.0 ∙ made.each))
          (subst (IsMadeAt rows root depths lists count) (sym last.1) here)
      | inr before ↦ made.label place other before.1
    ];
  }
    where
      here : IsMadeAt rows root depths lists count label
      here row others at there = is row at
          ∙ ap (label_from root row (get_or depths count 0))
          (same_Some levels others (sym has ∙ there))

  -- what stands in front of the levels is right
  right_head : IsNetwork rows → IsOnly points_at_none rows root → AreDepths rows depths
      → (place : ℕ) (row : NodeRow) (levels : S) → slice_get rows place ≡ Some row
      → IsRightHead rows row (label_from root row (get_or depths place 0) levels)
  right_head net only deep place row levels at =
      let depth : ℕ = get_or depths place 0 in
      let deep_at : slice_get depths place ≡ Some depth = slice_get-get_or depths place 0
      (omega (arith, slice_get_within rows place row at, deep.each)) in
      let in_tree : tree_says rows row (root_says root depth) =
      (tree_right rows depths deep net root only).label place row (root_says root depth) at
      (slice_get-map (root_says root) depths place ∙ ap (option_map (root_says root)) deep_at) in
      record {
        own = refl;
        root = in_tree;
        parent = λ port pointed.
            ap (λ (port : Option Port). option_map_or (λ (port : Port). port.nbr) port row.id)
            pointed;
        own_parent = λ none.
            ap (λ (port : Option Port). option_map_or (λ (port : Port). port.nbr) port row.id)
            none;
      }

  -- labels that are made of what is right are right, whatever that is of levels
  pub made_right : IsNetwork rows → IsOnly points_at_none rows root → AreDepths rows depths
      → length lists ≡ length rows → (Right : NodeRow → S → Type 0)
      → ((place : ℕ) (row : NodeRow) (levels : S) → slice_get rows place ≡ Some row
      → slice_get lists place ≡ Some levels → Right row levels)
      → (labels : List (LevelLabel S)) → AreMade rows root depths lists (length rows) labels
      → AreRight (λ row label. IsRightHead rows row label × Right row label.levels) rows labels
  made_right net only deep many Right each labels made = record {
    each = made.each;
    label = λ place row label at has.
        let (levels, there) : (levels : S) × (slice_get lists place ≡ Some levels) =
        item_at lists place (omega (arith, slice_get_within rows place row at, many)) in
        subst (λ (label : LevelLabel S). IsRightHead rows row label × Right row label.levels)
        (sym (made.label place label has row levels at there)) (
          right_head net only deep place row levels at,
          each place row levels at there,
        );
  }
