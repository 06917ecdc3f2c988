-- Levels that are at most so many, and walks from one node to all.
use Rattle.std.proofs.Common.{◌≡◌, ℕ, ◌+◌, ◌<◌, ◌≤◌, inl, inr, true, List, length, Contains, Option, Some, None, get_or, slice_get, subst, arith}
use Rattle.std.specs.List.{list_all}
use Rattle.std.proofs.lemmas.Bool.{cases_lt, le-leb, leb-true}
use Rattle.std.proofs.lemmas.List.Elements.{All-contains}
use Rattle.std.proofs.lemmas.List.Sums.{AllPass-from_list_all, list_all-from_AllPass}
use Rattle.std.proofs.lemmas.Option.{slice_get-get_or, slice_get_within}
use Rattle.pls_configuration.specs.declared.row.NodeRow.{NodeRow}
use Rattle.pls_configuration.specs.Walk.{edges_of}
use Rattle.pls_graph.specs.Levels.{AreLevels, IsFound}
use Rattle.pls_graph.proofs.Members.{Contains-from_map, Contains-from_place, Contains-map, place_from_Contains}
use Rattle.pls_graph.proofs.Finds.{item_at}
use Rattle.pls_diameter_bridges.specs.Diameter.{AreWithin, HasDiameterAtMost}
use Rattle.pls_diameter_bridges.specs.inner.Reaching.{ReachesAll, is_within}

module _ (rows : List NodeRow) (most place : ℕ) (found : List (Option ℕ))
    (levels : AreLevels rows place found) where
  -- where each level is within, each node is reached
  pub reached : list_all (is_within most) found ≡ true → ReachesAll most rows place
  reached all first row at in' =
      let (k, here) : (k : ℕ) × (slice_get rows k ≡ Some row) = place_from_Contains rows row in' in
      let (entry, has) : (entry : Option ℕ) × (slice_get found k ≡ Some entry) =
      item_at found k (omega (arith, levels.each, slice_get_within rows k row here)) in
      by row entry (levels.level first row k entry at here has)
      (All-contains (λ entry. is_within most entry ≡ true) found entry
      (AllPass-from_list_all (is_within most) found all) (Contains-from_place found k entry has))
    where
      by : (row : NodeRow) (entry : Option ℕ) → IsFound (edges_of rows) first.id row.id entry
          → is_within most entry ≡ true → AreWithin (edges_of rows) most first.id row.id
      by row None is passes = absurd (cc)
      by row (Some level) is passes =
          (is.nodes, is.walk, omega (arith, is.many, leb-true level most passes))

  -- and the other way round
  pub levels_within : (first : NodeRow) → slice_get rows place ≡ Some first
      → ReachesAll most rows place → list_all (is_within most) found ≡ true
  levels_within first at reaches =
      list_all-from_AllPass (is_within most) found (λ k d within.
      let (row, here) : (row : NodeRow) × (slice_get rows k ≡ Some row) =
      item_at rows k (omega (arith, levels.each, within)) in
      by row (get_or found k d) (levels.level first row k (get_or found k d) at here
      (slice_get-get_or found k d within))
      (reaches first row at (Contains-from_place rows k row here)))
    where
      by : (row : NodeRow) (entry : Option ℕ) → IsFound (edges_of rows) first.id row.id entry
          → AreWithin (edges_of rows) most first.id row.id → is_within most entry ≡ true
      by row None is near = absurd (is (near.0, near.1))
      by row (Some level) is near =
          le-leb level most (omega (arith, near.2, is.fewest near.0 near.1))

module _ (rows : List NodeRow) (most : ℕ) where
  -- where each node of the first ones reaches all
  abbrev pub ReachSoFar : ℕ → Type 0
  ReachSoFar count = (place : ℕ) → place < count → ReachesAll most rows place

  pub reach_more : (count : ℕ) → ReachSoFar count → ReachesAll most rows count
      → ReachSoFar (count + 1)
  reach_more count before here place within = elim (cases_lt place count) [
    | inl earlier ↦ before place earlier
    | inr late ↦ subst (ReachesAll most rows) (omega (arith, late, within)) here
  ]

  pub all_reach : (count : ℕ) → length rows ≤ count → ReachSoFar count → HasDiameterAtMost most rows
  all_reach count long each u v in_u in_v =
      let (first, first_in, is_u) : (row : NodeRow) × Contains rows row × (row.id ≡ u) =
      Contains-from_map (λ (row : NodeRow). row.id) rows u in_u in
      let (row, row_in, is_v) : (row : NodeRow) × Contains rows row × (row.id ≡ v) =
      Contains-from_map (λ (row : NodeRow). row.id) rows v in_v in
      let (place, at) : (place : ℕ) × (slice_get rows place ≡ Some first) =
      place_from_Contains rows first first_in in
      subst (λ (u : ℕ). AreWithin (edges_of rows) most u v) is_u
      (subst (λ (v : ℕ). AreWithin (edges_of rows) most first.id v) is_v
      (each place (omega (arith, long, slice_get_within rows place first at)) first row at row_in))

  pub reaches_each : (place : ℕ) → HasDiameterAtMost most rows → ReachesAll most rows place
  reaches_each place holds first row at in' =
      holds first.id row.id
      (Contains-map (λ (row : NodeRow). row.id) rows first (Contains-from_place rows place first at))
      (Contains-map (λ (row : NodeRow). row.id) rows row in')
