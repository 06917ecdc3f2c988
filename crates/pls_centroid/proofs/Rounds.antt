-- The rounds: the edges of a level are those of the tree whose ends have not been centroids, and
-- what the rounds say of a node one after another are its levels.
use Rattle.std.proofs.Common.{◌≡◌, ◌∙◌, ℕ, zero, suc, inl, inr, true, false, List, [], ◌∷◌, Contains, Option, Some, None, refl, sym, subst}
use Rattle.std.proofs.lemmas.Bool.{cases_Bool, cases_eq, true≢false}
use Rattle.pls_configuration.specs.declared.row.NodeRow.{NodeRow}
use Rattle.pls_configuration.specs.Configuration.{IsNetwork, ids_of}
use Rattle.pls_configuration.specs.Walk.{Edge, Adjacent, AreJoined}
use Rattle.pls_facts.specs.SpanningTree.{IsTree, pointed_edges}
use Rattle.pls_centroid.specs.Centroid.{centroid_of, is_centroid}
use Rattle.pls_centroid.specs.Levels.{AreLevelsFrom}
use Rattle.pls_centroid.specs.declared.level.CentroidLevel.{CentroidLevel}
use Rattle.pls_centroid.specs.inner.Rounds.{IsSaid, edges_in, is_taken, said_on}
use Rattle.pls_centroid.proofs.Central.{has_centroid}
use Rattle.pls_centroid.proofs.Pieces.{adjacent-left, centroid_known, centroid_passes, left-adjacent, left-among, passes_centroid, taken-alone}

module _ (rows : List NodeRow) where
  -- the edges of a level are edges of the tree
  pub in-among : (number : ℕ) (edge : Edge) → Contains (edges_in rows number) edge
      → Contains (pointed_edges rows) edge
  in-among zero edge in' = in'
  in-among (suc number) edge in' = in-among number edge
      (left-among (is_centroid (edges_in rows number) (ids_of rows)) (edges_in rows number) edge
      in')

  -- a node that has been a centroid is joined to no other
  pub taken_alone : (number u v : ℕ) → is_taken rows number u ≡ true
      → AreJoined (edges_in rows number) u v → u ≡ v
  taken_alone zero u v taken joined = absurd (true≢false (sym taken))
  taken_alone (suc number) u v taken joined =
      taken-alone (is_centroid (edges_in rows number) (ids_of rows)) (edges_in rows number) u v
      taken joined

  module _ (net : IsNetwork rows) (is_tree : IsTree rows) where
    -- so it is the centroid of its piece on every later level
    pub taken_stays : (number u : ℕ) → Contains (ids_of rows) u
        → is_taken rows number u ≡ true → is_taken rows (suc number) u ≡ true
    taken_stays number u known taken =
        let (c, is) : (c : ℕ) × (centroid_of (edges_in rows number) (ids_of rows) u ≡ Some c) =
        has_centroid rows net is_tree (edges_in rows number) (in-among number) u known in
        let own : u ≡ c = taken_alone number u c taken
        (centroid_known (edges_in rows number) (ids_of rows) u c is).1 in
        subst (λ (w : ℕ). is_centroid (edges_in rows number) (ids_of rows) w ≡ true) (sym own)
        (centroid_passes (edges_in rows number) (ids_of rows) u c is)

    -- nodes that the edges of a level make adjacent have not been centroids
    pub level_adjacent : (number u v : ℕ) → Adjacent (edges_in rows number) u v
        → Adjacent (pointed_edges rows) u v × (is_taken rows number u ≡ false)
        × (is_taken rows number v ≡ false)
    level_adjacent zero u v adjacent = (adjacent, refl, refl)
    level_adjacent (suc number) u v adjacent =
        let here = left-adjacent (is_centroid (edges_in rows number) (ids_of rows))
        (edges_in rows number) u v adjacent in
        ((level_adjacent number u v here.0).0, here.1, here.2)

    -- and the other way round
    pub adjacent_level : (number u v : ℕ) → Contains (ids_of rows) u → Contains (ids_of rows) v
        → Adjacent (pointed_edges rows) u v → is_taken rows number u ≡ false
        → is_taken rows number v ≡ false → Adjacent (edges_in rows number) u v
    adjacent_level zero u v u_in v_in adjacent one other = adjacent
    adjacent_level (suc number) u v u_in v_in adjacent one other =
        adjacent-left (is_centroid (edges_in rows number) (ids_of rows)) (edges_in rows number) u v
        (adjacent_level number u v u_in v_in adjacent (before u u_in one) (before v v_in other))
        one other
      where
        before : (w : ℕ) → Contains (ids_of rows) w → is_taken rows (suc number) w ≡ false
            → is_taken rows number w ≡ false
        before w in' later = elim (cases_Bool (is_taken rows number w)) [
          | inr fine ↦ fine
          | inl taken ↦ absurd (true≢false (sym (taken_stays number w in' taken) ∙ later))
        ]

  -- the rounds from one of this number on say so of the node, and before those behind them it has
  -- been a centroid
  abbrev pub AreSaid : ℕ → ℕ → List (Option CentroidLevel) → Type 0
  AreSaid number u [] = is_taken rows number u ≡ true
  AreSaid number u (entry ∷ entries) = IsSaid rows number u entry × AreSaid (suc number) u entries

  -- then what they say are its levels, where it has not been a centroid before
  pub said_levels : (number u : ℕ) (entries : List (Option CentroidLevel))
      → AreSaid number u entries
      → is_taken rows number u ≡ false
      → AreLevelsFrom rows (edges_in rows number) u (said_on entries)
  said_levels number u [] said fresh = absurd (true≢false (sym said ∙ fresh))
  said_levels number u (None ∷ entries) said fresh = absurd (true≢false (sym said.0 ∙ fresh))
  said_levels number u (Some level ∷ entries) said fresh = (
    said.0.1,
    elim (cases_eq level.centroid u) [
      | inl own ↦ inl (own, none entries said.1 (taken own))
      | inr apart ↦ inr (
        apart,
        said_levels (suc number) u entries said.1
            (elim (cases_Bool (is_taken rows (suc number) u)) [
              | inr fine ↦ fine
              | inl passes ↦ absurd (apart (passes_centroid (edges_in rows number) (ids_of rows) u
                  level.centroid u said.0.1.centroid ([], refl) passes))
            ]),
      )
    ],
  )
    where
      taken : level.centroid ≡ u → is_taken rows (suc number) u ≡ true
      taken own = subst (λ (w : ℕ). is_centroid (edges_in rows number) (ids_of rows) w ≡ true) own
          (centroid_passes (edges_in rows number) (ids_of rows) u level.centroid
          said.0.1.centroid)

      none : (entries : List (Option CentroidLevel)) → AreSaid (suc number) u entries
          → is_taken rows (suc number) u ≡ true → said_on entries ≡ []
      none [] said taken = refl
      none (None ∷ entries) said taken = refl
      none (Some level ∷ entries) said taken = absurd (true≢false (sym taken ∙ said.0.0))
