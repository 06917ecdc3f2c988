-- What the marker of the number of nodes writes is right.
use Rattle.std.proofs.Common.{◌≡◌, ◌≢◌, ◌∙◌, ℕ, ◌≤◌, List, [], length, get_or, Option, Some, None, slice_get, refl, sym, ap, subst, arith}
use Rattle.std.specs.Option.{option_map}
use Rattle.std.proofs.lemmas.Option.{get_or_from_slice_get, same_Some, slice_get_within}
use Rattle.pls_configuration.specs.declared.row.NodeRow.{NodeRow}
use Rattle.pls_configuration.specs.Configuration.{IsNetwork}
use Rattle.pls_graph.proofs.Finds.{item_at}
use Rattle.pls_search.specs.SubtreeSizes.{AreSubtreeSizes}
use Rattle.pls_leader.specs.Count.{IsCounted, IsParent, count_of, count_says}
use Rattle.pls_leader.specs.inner.LevelsFrom.{AreLevelsFrom}
use Rattle.pls_leader.specs.inner.Nearest.{AreNearest}
use Rattle.pls_leader.proofs.Counted.{alone, first, ids_many, level, level_is, up_there}

-- the identity that is written for a parent: the node's own where it has none
abbrev pub IsWritten : List NodeRow → NodeRow → Option ℕ → ℕ → Type 0
IsWritten rows row None parent = parent ≡ row.id
IsWritten rows row (Some up) parent = (node : NodeRow) → slice_get rows up ≡ Some node
    → node.id ≡ parent

-- what is written is the identity at the parent's place, or the own one
pub written_parent : (rows : List NodeRow) (row : NodeRow) (parents : List (Option ℕ))
    (place up id : ℕ) → get_or parents place None ≡ Some up
    → option_map (λ (row : NodeRow). row.id) (slice_get rows up) ≡ Some id
    → (entry : Option ℕ) → slice_get parents place ≡ Some entry → IsWritten rows row entry id
written_parent rows row parents place up id is named entry at =
    let same : Some up ≡ entry = sym is ∙ get_or_from_slice_get parents place entry None at in
    subst (λ (entry : Option ℕ). IsWritten rows row entry id) same
    (λ node here. same_Some node.id id
    (sym (ap (option_map (λ (row : NodeRow). row.id)) here) ∙ named))

pub written_own : (rows : List NodeRow) (row : NodeRow) (parents : List (Option ℕ))
    (place id : ℕ) → get_or parents place None ≡ None → id ≡ row.id
    → (entry : Option ℕ) → slice_get parents place ≡ Some entry → IsWritten rows row entry id
written_own rows row parents place id is own entry at =
    let same : None ≡ entry = sym is ∙ get_or_from_slice_get parents place entry None at in
    subst (λ (entry : Option ℕ). IsWritten rows row entry id) same own

module _ (rows : List NodeRow) (net : IsNetwork rows) (levels : List ℕ)
    (from : AreLevelsFrom rows 0 levels) (parents : List (Option ℕ))
    (nearest : AreNearest rows levels parents) where
  -- the first row, and the level of the node at a place
  abbrev the_first : (first : NodeRow) × (slice_get rows 0 ≡ Some first)
  the_first = first rows net levels from parents nearest

  abbrev level_at : ℕ → ℕ
  level_at = level rows net levels from parents nearest

  -- the label that is written is right
  pub counted_right : (sizes : List ℕ) → AreSubtreeSizes parents sizes → (place : ℕ) (row : NodeRow)
      → slice_get rows place ≡ Some row → (start : NodeRow) → slice_get rows 0 ≡ Some start
      → (parent size : ℕ) → slice_get sizes place ≡ Some size
      → ((entry : Option ℕ) → slice_get parents place ≡ Some entry → IsWritten rows row entry parent)
      → count_says rows row (count_of start.id row.id parent (level_at place) size (length rows))
  counted_right sizes are place row at start start_at parent size has written other other_at =
      let same : other ≡ the_first.0 = same_Some other the_first.0 (sym other_at ∙ the_first.1) in
      let start_is : start ≡ the_first.0 = same_Some start the_first.0 (sym start_at ∙ the_first.1) in
      subst (λ (first : NodeRow). IsCounted rows first.id row
      (count_of start.id row.id parent (level_at place) size (length rows))) (sym same)
      record {
        root_is = ap (λ (row : NodeRow). row.id) start_is;
        own = refl;
        depth = level_is rows net levels from parents nearest place row at;
        at_root = at_root;
        parent = is_parent;
        size = ids_many rows net levels from parents nearest place row size at
            (are.size place size has);
        total = refl;
      }
    where
      entry : (entry : Option ℕ) × (slice_get parents place ≡ Some entry)
      entry = item_at parents place (let each = nearest.each in
          omega (arith, each, slice_get_within rows place row at))

      at_root : row.id ≡ the_first.0.id → parent ≡ row.id
      at_root is = by entry.0 entry.1
        where
          by : (entry : Option ℕ) → slice_get parents place ≡ Some entry → parent ≡ row.id
          by None none = written None none
          by (Some up) up_at =
              let (node, there, is_up, less) =
              up_there rows net levels from parents nearest place up row at up_at in
              let few : level_at place ≤ length {A = ℕ} [] =
              (level_is rows net levels from parents nearest place row at).fewest [] (sym is) in
              absurd (omega (arith, few, less))

      is_parent : row.id ≢ the_first.0.id → IsParent rows the_first.0.id row.id parent
      is_parent apart = by entry.0 entry.1
        where
          by : (entry : Option ℕ) → slice_get parents place ≡ Some entry
              → IsParent rows the_first.0.id row.id parent
          by None none = absurd (apart (alone rows net levels from parents nearest place row at none))
          by (Some up) up_at =
              let (node, there, is_up, less) =
              up_there rows net levels from parents nearest place up row at up_at in
              let named : node.id ≡ parent = written (Some up) up_at node there in
              subst (IsParent rows the_first.0.id row.id) named is_up
