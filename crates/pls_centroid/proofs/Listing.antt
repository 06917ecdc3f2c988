-- What all rounds say of each node are its levels: each node is a centroid soon enough, since its
-- piece has at most half of the nodes that it had before.
use Rattle.std.proofs.Common.{◌≡◌, ◌∙◌, ℕ, zero, suc, ◌+◌, ◌*◌, ◌^◌, ◌<◌, ◌≤◌, ◌++◌, inl, inr, Bool, true, false, All, List, [], ◌∷◌, length, get_or, slice_get, Contains, Option, Some, None, refl, sym, ap, subst, arith, pow-suc}
use Rattle.std.proofs.lemmas.Bool.{cases_Bool, true≢false}
use Rattle.std.specs.List.{list_all}
use Rattle.std.proofs.lemmas.List.{length-map}
use Rattle.std.proofs.lemmas.List.FromFn.{length-map-range_with_len}
use Rattle.std.proofs.lemmas.List.Sums.{count_by-le-length, length-filter}
use Rattle.std.proofs.lemmas.Option.{get_or_from_slice_get, slice_get-get_or, slice_get_within}
use Rattle.pls_configuration.specs.declared.row.NodeRow.{NodeRow}
use Rattle.pls_configuration.specs.Configuration.{IsNetwork, ids_of}
use Rattle.pls_graph.proofs.Finds.{item_at}
use Rattle.pls_graph.proofs.Members.{Contains-from_place, Contains-map}
use Rattle.pls_facts.specs.SpanningTree.{IsTree, pointed_edges}
use Rattle.pls_facts.proofs.Lists.{each_passes}
use Rattle.pls_centroid.specs.Centroid.{are_together, centroid_of, is_centroid, piece_of}
use Rattle.pls_centroid.specs.Levels.{AreCentroidLevels, AreCentroidLists}
use Rattle.pls_centroid.specs.declared.level.CentroidLevel.{CentroidLevel}
use Rattle.pls_centroid.specs.inner.Cut.{id_at}
use Rattle.pls_centroid.specs.inner.Rounds.{AreAllRounds, AreRoundsFrom, AreTaken, IsRound, edges_in, entries_at, is_taken, lists_said, said_on}
use Rattle.pls_centroid.proofs.Below.{id_at-row, place_of_id}
use Rattle.pls_centroid.proofs.Central.{has_centroid}
use Rattle.pls_centroid.proofs.Few.{few_of_tree, piece-halved}
use Rattle.pls_centroid.proofs.Pieces.{centroid_passes, joined-piece}
use Rattle.pls_centroid.proofs.Rounds.{AreSaid, in-among, said_levels, taken_stays}
use Rattle.pls_centroid.proofs.Saying.{lists_said-there}

-- a number is less than its power of 2
pub below_power : (n : ℕ) → n < 2 ^ n
below_power zero = omega arith
below_power (suc n) = omega (arith, below_power n, pow-suc 2 n)

-- where all flags are set, each node has been a centroid
pub all_taken : (rows : List NodeRow) (number : ℕ) (taken : List Bool)
    → AreTaken rows number taken → list_all (λ flag. flag) taken ≡ true → (u : ℕ)
    → Contains (ids_of rows) u → is_taken rows number u ≡ true
all_taken rows number taken flags all u known =
    let (place, within, named) : (place : ℕ) × (place < length rows) × (id_at rows place ≡ u) =
    place_of_id rows u known in
    let each = flags.each in
    let at : slice_get taken place ≡ Some (get_or taken place false) =
    slice_get-get_or taken place false (omega (arith, within, each)) in
    ap (is_taken rows number) (sym named) ∙ sym (flags.flag place (get_or taken place false) at)
    ∙ each_passes (λ flag. flag) taken all (get_or taken place false)
    (Contains-from_place taken place (get_or taken place false) at)

-- all rounds, as many as there are
pub rounds_all : (rows : List NodeRow) (number : ℕ) (rounds : List (List (Option CentroidLevel)))
    → AreRoundsFrom rows 0 rounds → length rounds ≡ number
    → ((u : ℕ) → Contains (ids_of rows) u → is_taken rows number u ≡ true)
    → AreAllRounds rows rounds
rounds_all rows number rounds are many all = record {
  are = are;
  all = λ u known. ap (λ (number : ℕ). is_taken rows number u) many ∙ all u known;
}

-- one round more
pub rounds_more : (rows : List NodeRow) (number last : ℕ) (rounds : List
    (List (Option CentroidLevel)))
    (round : List (Option CentroidLevel)) → last ≡ number + length rounds
    → AreRoundsFrom rows number rounds → IsRound rows last round
    → AreRoundsFrom rows number (rounds ++ round ∷ [])
rounds_more rows number last [] round is are more =
    let same : last ≡ number = omega (arith, is) in
    (subst (λ (number : ℕ). IsRound rows number round) same more, tt)
rounds_more rows number last (first ∷ rounds) round is are more =
    (are.0, rounds_more rows (suc number) last rounds round (omega (arith, is)) are.1 more)

module _ (rows : List NodeRow) (net : IsNetwork rows) (is_tree : IsTree rows) (u : ℕ)
    (known : Contains (ids_of rows) u) where
  -- a node that has been no centroid was none before
  fresh_before : (number : ℕ) → is_taken rows (suc number) u ≡ false
      → is_taken rows number u ≡ false
  fresh_before number later = elim (cases_Bool (is_taken rows number u)) [
    | inr fresh ↦ fresh
    | inl taken ↦ absurd (true≢false
        (sym (taken_stays rows net is_tree number u known taken) ∙ later))
  ]

  fresh_long_before : (count number far : ℕ) → far ≡ number + count → is_taken rows far u ≡ false
      → is_taken rows number u ≡ false
  fresh_long_before zero number far is fresh =
      let same : far ≡ number = omega (arith, is) in
      subst (λ (far : ℕ). is_taken rows far u ≡ false) same fresh
  fresh_long_before (suc count) number far is fresh =
      fresh_before number (fresh_long_before count (suc number) far (omega (arith, is)) fresh)

  -- where it is none for so many levels, its piece is large
  large_piece : (count number far : ℕ) → far ≡ number + count → is_taken rows far u ≡ false
      → 2 ^ count ≤ length (piece_of (edges_in rows number) (ids_of rows) u)
  large_piece zero number far is fresh =
      let own : Contains (piece_of (edges_in rows number) (ids_of rows) u) u =
      joined-piece (edges_in rows number) (ids_of rows) u u known ([], refl) in
      let some = own.1 in omega (arith, some)
  large_piece (suc count) number far is fresh =
      let next = large_piece count (suc number) far (omega (arith, is)) fresh in
      let later : is_taken rows (suc number) u ≡ false =
      fresh_long_before count (suc number) far (omega (arith, is)) fresh in
      let (c, found) : (c : ℕ) × (centroid_of (edges_in rows number) (ids_of rows) u ≡ Some c) =
      has_centroid rows net is_tree (edges_in rows number) (in-among rows number) u known in
      let passes : is_centroid (edges_in rows number) (ids_of rows) c ≡ true =
      centroid_passes (edges_in rows number) (ids_of rows) u c found in
      let half = piece-halved (ids_of rows) (edges_in rows number) u c known found
      (λ same. true≢false (sym passes
      ∙ ap (is_centroid (edges_in rows number) (ids_of rows)) same ∙ later)) in
      omega (arith, next, half, pow-suc 2 count)

  -- so after as many rounds as there are nodes each has been a centroid
  pub soon_taken : (number : ℕ) → length rows ≤ number → is_taken rows number u ≡ true
  soon_taken number many = elim (cases_Bool (is_taken rows number u)) [
    | inl taken ↦ taken
    | inr fresh ↦
        let large = large_piece number 0 number (omega arith) fresh in
        let kept = length-filter (are_together (pointed_edges rows) u) (ids_of rows) in
        let all = count_by-le-length (are_together (pointed_edges rows) u) (ids_of rows) in
        let ids = length-map rows (λ (row : NodeRow). row.id) in
        absurd (omega (arith, large, kept, all, ids, many, below_power number))
  ]

module _ (rows : List NodeRow) (place : ℕ) (within : place < length rows) where
  -- what the rounds from a number on say of a place
  said_from : (number last : ℕ) (rounds : List (List (Option CentroidLevel)))
      → last ≡ number + length rounds → AreRoundsFrom rows number rounds
      → is_taken rows last (id_at rows place) ≡ true
      → AreSaid rows number (id_at rows place) (entries_at rounds place)
  said_from number last [] is are taken =
      let same : last ≡ number = omega (arith, is) in
      subst (λ (number : ℕ). is_taken rows number (id_at rows place) ≡ true) same taken
  said_from number last (round ∷ rounds) is are taken =
      let each = are.0.each in (
        are.0.said place (get_or round place None)
            (slice_get-get_or round place None (omega (arith, within, each))),
        said_from (suc number) last rounds (omega (arith, is)) are.1 taken,
      )

-- what all rounds say of the nodes are their levels
pub lists_right : (rows : List NodeRow) → IsNetwork rows → IsTree rows
    → (rounds : List (List (Option CentroidLevel))) → AreAllRounds rows rounds
    → AreCentroidLists rows (lists_said rounds (length rows))
lists_right rows net is_tree rounds all = record {
  each = length-map-range_with_len (λ place. said_on (entries_at rounds place)) 0 (length rows);
  levels = λ place row list at stands.
      let within = slice_get_within rows place row at in
      let named : id_at rows place ≡ row.id = id_at-row rows place row at in
      let known : Contains (ids_of rows) (id_at rows place) =
      subst (Contains (ids_of rows)) (sym named)
      (Contains-map (λ (row : NodeRow). row.id) rows row (Contains-from_place rows place row at)) in
      let is : said_on (entries_at rounds place) ≡ list =
      sym (lists_said-there rounds (length rows) place within)
      ∙ get_or_from_slice_get (lists_said rounds (length rows)) place list [] stands in
      subst (λ (id : ℕ). AreCentroidLevels rows id list) named
      (subst (AreCentroidLevels rows (id_at rows place)) is
      (said_levels rows 0 (id_at rows place) (entries_at rounds place)
      (said_from rows place within 0 (length rounds) rounds (omega arith) all.are
      (all.all (id_at rows place) known)) refl));
}

-- and there are few of them
pub lists_few : (rows : List NodeRow) (lists : List (List CentroidLevel))
    → AreCentroidLists rows lists → All (λ list. 2 ^ length list ≤ 2 * length rows) lists
lists_few rows lists are k d within =
    let each = are.each in
    let (row, at) : (row : NodeRow) × (slice_get rows k ≡ Some row) =
    item_at rows k (omega (arith, within, each)) in
    few_of_tree rows row.id
    (Contains-map (λ (row : NodeRow). row.id) rows row (Contains-from_place rows k row at))
    (pointed_edges rows) (get_or lists k d)
    (are.levels k row (get_or lists k d) at (slice_get-get_or lists k d within))
