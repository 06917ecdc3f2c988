-- What the markers write is right.
use Rattle.std.proofs.Common.{◌≡◌, ◌∙◌, ℕ, ◌==◌, true, List, Contains, Option, Some, map, position, slice_get, unwrap_or, sym, ap, subst}
use Rattle.std.proofs.lemmas.List.{length-map}
use Rattle.std.proofs.lemmas.Option.{same_Some, slice_get-map}
use Rattle.std.specs.Option.{option_map}
use Rattle.pls_configuration.specs.declared.row.NodeRow.{NodeRow}
use Rattle.pls_configuration.specs.Configuration.{IsNetwork}
use Rattle.pls_configuration.specs.Walk.{IsConnected, edges_of}
use Rattle.pls_graph.specs.Levels.{AreLevels, IsLevel}
use Rattle.pls_graph.proofs.Members.{place_from_Contains}
use Rattle.pls_graph.proofs.Placed.{place_of_row}
use Rattle.pls_scheme.specs.Marked.{AreRight}
use Rattle.pls_scheme.proofs.Markings.{right_map}
use Rattle.pls_facts.specs.Leader.{is_leader}
use Rattle.pls_facts.specs.OnlyNode.{IsOnly}
use Rattle.pls_facts.proofs.Levels.{known_level}
use Rattle.pls_facts.proofs.OnlyNode.{the_only}
use Rattle.pls_leader.specs.Leader.{leader_says}
use Rattle.pls_leader.specs.inner.Saying.{leader_at}
use Rattle.pls_leader.specs.inner.LevelsFrom.{AreLevelsFrom}

-- in a connected network the levels that are found are those of all nodes
pub all_levels : (rows : List NodeRow) (place : ℕ) (found : List (Option ℕ)) → IsConnected rows
    → AreLevels rows place found
    → AreLevelsFrom rows place (map (λ level. unwrap_or level 0) found)
all_levels rows place found joined levels = record {
  each = length-map found (λ level. unwrap_or level 0) ∙ levels.each;
  level = right;
}
  where
    right : (first row : NodeRow) (i level : ℕ) → slice_get rows place ≡ Some first
        → slice_get rows i ≡ Some row
        → slice_get (map (λ level. unwrap_or level 0) found) i ≡ Some level
        → IsLevel (edges_of rows) first.id row.id level
    right first row i level at_first at has =
        let (known, is, found_right) : (known : ℕ) × (slice_get found i ≡ Some (Some known))
        × IsLevel (edges_of rows) first.id row.id known =
        known_level rows place found joined levels first row i at_first at in
        let same : known ≡ level = same_Some known level
        (sym (slice_get-map (λ (level : Option ℕ). unwrap_or level 0) found i
        ∙ ap (option_map (λ (level : Option ℕ). unwrap_or level 0)) is) ∙ has) in
        subst (IsLevel (edges_of rows) first.id row.id) same found_right

module _ (rows : List NodeRow) (net : IsNetwork rows) (leader : ℕ)
    (only : IsOnly is_leader rows leader) where
  -- the node that is marked
  pub the_leader : (row : NodeRow) × Contains rows row × (is_leader row.state ≡ true)
  the_leader = the_only is_leader rows only.one

  -- the place of the leader
  pub leader_place : (i : ℕ) × (slice_get rows i ≡ Some the_leader.0)
      × (position (λ row. leader == row.id) rows ≡ Some i)
  leader_place =
      let (i, at) : (i : ℕ) × (slice_get rows i ≡ Some the_leader.0) =
      place_from_Contains rows the_leader.0 the_leader.1 in
      let named : the_leader.0.id ≡ leader =
      only.named the_leader.0 the_leader.1 the_leader.2 in (
        i,
        at,
        subst (λ (id : ℕ). position (λ (row : NodeRow). id == row.id) rows ≡ Some i) named
            (place_of_row rows net i the_leader.0 at),
      )

  -- what the marker writes
  pub leader_right : (place : ℕ) → position (λ row. leader == row.id) rows ≡ Some place
      → (levels : List ℕ) → AreLevelsFrom rows place levels
      → AreRight (leader_says rows) rows (map (leader_at leader) levels)
  leader_right place is levels from =
      right_map (leader_says rows) rows (leader_at leader) levels from.each right
    where
      right : (i : ℕ) (row : NodeRow) (level : ℕ) → slice_get rows i ≡ Some row
          → slice_get levels i ≡ Some level → leader_says rows row (leader_at leader level)
      right i row level at has other other_in marked =
          let (j, there) : (j : ℕ) × (slice_get rows j ≡ Some other) =
          place_from_Contains rows other other_in in
          let named : other.id ≡ leader = only.named other other_in marked in
          let same : place ≡ j = same_Some place j (sym is
          ∙ subst (λ (id : ℕ). position (λ (row : NodeRow). id == row.id) rows ≡ Some j) named
          (place_of_row rows net j other there)) in (
            sym named,
            from.level other row i level
                (subst (λ (place : ℕ). slice_get rows place ≡ Some other) (sym same) there) at has,
          )
