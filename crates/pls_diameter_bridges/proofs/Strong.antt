-- Where along the directions of the edges each node is reached from the first, and the first from
-- each, there is a way round each edge (H. E. Robbins, "A theorem on graphs, with an application to
-- a problem of traffic control", 1939).
use Rattle.std.proofs.Common.{◌≡◌, ◌∙◌, ℕ, zero, suc, ◌+◌, ◌<◌, ◌≤◌, ◌⊎◌, inl, inr, Bool, true, not, ◌==◌, ◌&&◌, ◌||◌, nat_lt, List, [], length, Contains, Option, Some, slice_get, refl, sym, ap, subst, arith}
use Rattle.std.specs.Option.{option_map_or}
use Rattle.std.specs.List.{list_any}
use Rattle.std.proofs.lemmas.Bool.{and_parts, cases_Bool, cases_eq, cases_lt, ltb-true, not-true, or_cases}
use Rattle.std.proofs.lemmas.List.Elements.{All-contains}
use Rattle.std.proofs.lemmas.Option.{slice_get_within}
use Rattle.pls_configuration.specs.declared.row.NodeRow.{NodeRow}
use Rattle.pls_configuration.specs.Configuration.{IsNetwork}
use Rattle.pls_configuration.specs.Walk.{Adjacent, AreJoined, Edge, IsConnected, Joins, edges_of}
use Rattle.pls_graph.specs.Places.{beside}
use Rattle.pls_graph.proofs.Beside.{Adjacent-beside, beside_within, one_place}
use Rattle.pls_graph.proofs.Joined.{AreJoined-adjacent, AreJoined-through, AreJoined-turned}
use Rattle.pls_graph.proofs.Finds.{item_at}
use Rattle.pls_facts.proofs.Lists.{passes_any}
use Rattle.pls_diameter_bridges.specs.Bridgeless.{IsBridgeless, without}
use Rattle.pls_diameter_bridges.specs.inner.Crossing.{HasWayRound}
use Rattle.pls_diameter_bridges.specs.inner.Orientation.{IsStrong, entry_at, is_way_home, is_way_in, leads}
use Rattle.pls_diameter_bridges.proofs.Crossed.{all_round}
use Rattle.pls_diameter_bridges.proofs.Rest.{same_ends, step_left}

-- the identity of the node at a place
abbrev id_at : List NodeRow → ℕ → ℕ
id_at rows place = option_map_or (λ (row : NodeRow). row.id) (slice_get rows place) 0

-- from each place but the first a step that passes the test goes to a place of a smaller rank
abbrev StepsFall : List NodeRow → (ℕ → ℕ → Bool) → (ℕ → ℕ) → Type 0
StepsFall rows steps rank =
    (x : ℕ) → 1 ≤ x → x < length rows
    → (y : ℕ) × Contains (beside rows x) y × (steps x y ≡ true) × (rank y < rank x)

module _ (rows : List NodeRow) (net : IsNetwork rows) where
  id_is : (place : ℕ) (row : NodeRow) → slice_get rows place ≡ Some row
      → id_at rows place ≡ row.id
  id_is place row at =
      ap (λ (item : Option NodeRow). option_map_or (λ (row : NodeRow). row.id) item 0) at

  -- a neighbour stands at a place of a row
  inside : (x y : ℕ) → x < length rows → Contains (beside rows x) y → y < length rows
  inside x y within in' =
      All-contains (λ k. k < length rows) (beside rows x) y (beside_within rows net x within) in'

  -- neighbours are adjacent
  step_between : (x y : ℕ) → x < length rows → Contains (beside rows x) y
      → Adjacent (edges_of rows) (id_at rows x) (id_at rows y)
  step_between x y within in' =
      let (row, at) : (row : NodeRow) × (slice_get rows x ≡ Some row) = item_at rows x within in
      let (other, there) : (other : NodeRow) × (slice_get rows y ≡ Some other) =
      item_at rows y (inside x y within in') in
      subst (λ (u : ℕ). Adjacent (edges_of rows) u (id_at rows y)) (sym (id_is x row at))
      (subst (Adjacent (edges_of rows) row.id) (sym (id_is y other there))
      (Adjacent-beside rows net x row at y other there in'))

  -- one identity stands at one place
  same_place : (x y : ℕ) → x < length rows → y < length rows → id_at rows x ≡ id_at rows y → x ≡ y
  same_place x y within also same =
      let (row, at) : (row : NodeRow) × (slice_get rows x ≡ Some row) = item_at rows x within in
      let (other, there) : (other : NodeRow) × (slice_get rows y ≡ Some other) =
      item_at rows y also in
      one_place rows net x y row other at there
      (sym (id_is x row at) ∙ same ∙ id_is y other there)

  module _ (leads : ℕ → ℕ → Bool) (number home : ℕ → ℕ)
      (back : StepsFall rows (λ x y. leads y x) number) (onward : StepsFall rows leads home)
      (edge : Edge) (p q : ℕ) (p_within : p < length rows) (q_within : q < length rows)
      (joins : Joins edge (id_at rows p) (id_at rows q)) (one_way : leads q p ≡ true → ⊥) where
    -- the nodes at two places are joined by the other edges
    abbrev Joined : ℕ → ℕ → Type 0
    Joined x y = AreJoined (without edge (edges_of rows)) (id_at rows x) (id_at rows y)

    through : (x y z : ℕ) → Joined x y → Joined y z → Joined x z
    through x y z there on =
        AreJoined-through (without edge (edges_of rows)) (id_at rows x) (id_at rows y)
        (id_at rows z) there on

    -- the places of the edge's ends
    ends : (x y : ℕ) → x < length rows → y < length rows
        → Joins edge (id_at rows x) (id_at rows y) → ((x ≡ p) × (y ≡ q)) ⊎ ((x ≡ q) × (y ≡ p))
    ends x y within also between =
        elim (same_ends (edges_of rows) edge (id_at rows p) (id_at rows q) (id_at rows x)
        (id_at rows y) joins between) [
          | inl same ↦
              inl (same_place x p within p_within same.0, same_place y q also q_within same.1)
          | inr turned ↦
              inr (same_place x q within q_within turned.0, same_place y p also p_within turned.1)
        ]

    -- a step along another edge
    step : (x y : ℕ) → x < length rows → Contains (beside rows x) y
        → (Joins edge (id_at rows x) (id_at rows y) → ⊥) → Joined x y
    step x y within in' differs =
        AreJoined-adjacent (without edge (edges_of rows)) (id_at rows x) (id_at rows y)
        (step_left (edges_of rows) edge (id_at rows x) (id_at rows y) (step_between x y within in')
        differs)

    -- the way home from a place leads to the first, or meets p
    upward : (bound x : ℕ) → home x < bound → x < length rows → Joined x p ⊎ Joined x 0
    upward zero x low within = absurd (omega (arith, low))
    upward (suc bound) x low within = elim (cases_lt x 1) [
      | inl first ↦
          let same : x ≡ 0 = omega (arith, first) in
          inr ([], ap (id_at rows) same)
      | inr some ↦ elim (cases_eq x p) [
        | inl same ↦ inl ([], ap (id_at rows) same)
        | inr apart ↦
            let (y, in', way, less) : (y : ℕ) × Contains (beside rows x) y × (leads x y ≡ true)
            × (home y < home x) = onward x some within in
            let also : y < length rows = inside x y within in' in
            let on : Joined x y = step x y within in'
            (λ between. elim (ends x y within also between) [
              | inl same ↦ apart same.0
              | inr turned ↦ one_way (subst (λ (y : ℕ). leads q y ≡ true) turned.1
                  (subst (λ (x : ℕ). leads x y ≡ true) turned.0 way))
            ]) in
            elim (upward bound y (omega (arith, low, less)) also) [
              | inl rest ↦ inl (through x y p on rest)
              | inr rest ↦ inr (through x y 0 on rest)
            ]
      ]
    ]

    -- where a place is joined with p, so is one on the way from the first to it: the first or q
    backward : (bound x : ℕ) → number x < bound → x < length rows → Joined x p
        → Joined 0 p ⊎ Joined q p
    backward zero x low within here = absurd (omega (arith, low))
    backward (suc bound) x low within here = elim (cases_lt x 1) [
      | inl first ↦
          let same : x ≡ 0 = omega (arith, first) in
          inl (subst (λ (x : ℕ). Joined x p) same here)
      | inr some ↦
          let (y, in', way, less) : (y : ℕ) × Contains (beside rows x) y × (leads y x ≡ true)
          × (number y < number x) = back x some within in
          let also : y < length rows = inside x y within in' in
          elim (cases_eq x q) [
            | inl same ↦ inr (subst (λ (x : ℕ). Joined x p) same here)
            | inr apart ↦
                let on : Joined x y = step x y within in'
                (λ between. elim (ends x y within also between) [
                  | inl same ↦ one_way (subst (λ (y : ℕ). leads y p ≡ true) same.1
                      (subst (λ (x : ℕ). leads y x ≡ true) same.0 way))
                  | inr turned ↦ apart turned.0
                ]) in
                backward bound y (omega (arith, low, less)) also
                (through y x p (AreJoined-turned (without edge (edges_of rows)) (id_at rows x)
                (id_at rows y) on) here)
          ]
    ]

    -- so there is a way round the edge
    round : Joined q p
    round = elim (backward (suc (number p)) p (omega arith) p_within ([], refl)) [
      | inl down ↦ elim (upward (suc (home q)) q (omega arith) q_within) [
        | inl up ↦ up
        | inr up ↦ through q 0 p up down
      ]
      | inr up ↦ up
    ]

-- an edge leads one way at most
one_way : (numbers parents : List ℕ) (x y : ℕ) → leads numbers parents x y ≡ true
    → leads numbers parents y x ≡ true → ⊥
one_way numbers parents x y there back =
    by (entry_at numbers x) (entry_at numbers y) (entry_at parents x) (entry_at parents y) there
    back
  where
    by : (nx ny px py : ℕ)
        → ((nat_lt nx ny && py == x) || (nat_lt ny nx && not (px == y))) ≡ true
        → ((nat_lt ny nx && px == y) || (nat_lt nx ny && not (py == x))) ≡ true → ⊥
    by nx ny px py there back =
        elim (or_cases (nat_lt nx ny && py == x) (nat_lt ny nx && not (px == y)) there) [
          | inl down ↦
              let one = and_parts (nat_lt nx ny) (py == x) down in
              let less = ltb-true nx ny one.0 in
              elim (or_cases (nat_lt ny nx && px == y) (nat_lt nx ny && not (py == x)) back) [
                | inl also ↦
                    let more = ltb-true ny nx (and_parts (nat_lt ny nx) (px == y) also).0 in
                    omega (arith, less, more)
                | inr up ↦
                    let no = not-true (py == x) (and_parts (nat_lt nx ny) (not (py == x)) up).1 in
                    absurd (cc)
              ]
          | inr up ↦
              let one = and_parts (nat_lt ny nx) (not (px == y)) up in
              let less = ltb-true ny nx one.0 in
              elim (or_cases (nat_lt ny nx && px == y) (nat_lt nx ny && not (py == x)) back) [
                | inl down ↦
                    let yes = (and_parts (nat_lt ny nx) (px == y) down).1 in
                    let no = not-true (px == y) one.1 in
                    absurd (cc)
                | inr also ↦
                    let more = ltb-true nx ny (and_parts (nat_lt nx ny) (not (py == x)) also).0 in
                    omega (arith, less, more)
              ]
        ]

module _ (rows : List NodeRow) (net : IsNetwork rows) (numbers parents homes : List ℕ)
    (strong : IsStrong rows numbers parents homes) where
  back : StepsFall rows (λ x y. leads numbers parents y x) (entry_at numbers)
  back x some within =
      let (y, in', way) : (y : ℕ) × Contains (beside rows x) y
      × (is_way_in numbers parents x y ≡ true) =
      passes_any (is_way_in numbers parents x) (beside rows x) (strong.way_in x some within) in
      let both = and_parts (leads numbers parents y x)
      (nat_lt (entry_at numbers y) (entry_at numbers x)) way in
      (y, in', both.0, ltb-true (entry_at numbers y) (entry_at numbers x) both.1)

  onward : StepsFall rows (leads numbers parents) (entry_at homes)
  onward x some within =
      let (y, in', way) : (y : ℕ) × Contains (beside rows x) y
      × (is_way_home numbers parents homes x y ≡ true) =
      passes_any (is_way_home numbers parents homes x) (beside rows x)
      (strong.way_home x some within) in
      let both = and_parts (leads numbers parents x y)
      (nat_lt (entry_at homes y) (entry_at homes x)) way in
      (y, in', both.0, ltb-true (entry_at homes y) (entry_at homes x) both.1)

  -- there is a way round each edge
  strong_round : (place other : ℕ) → HasWayRound rows place other
  strong_round place other one two edge at_one at_two in' joins =
      let rest : List Edge = without edge (edges_of rows) in
      let within : place < length rows = slice_get_within rows place one at_one in
      let also : other < length rows = slice_get_within rows other two at_two in
      let is_one : id_at rows place ≡ one.id = id_is rows net place one at_one in
      let is_two : id_at rows other ≡ two.id = id_is rows net other two at_two in
      let between : Joins edge (id_at rows place) (id_at rows other) =
      subst (λ (u : ℕ). Joins edge u (id_at rows other)) (sym is_one)
      (subst (Joins edge one.id) (sym is_two) joins) in
      let turned : Joins edge (id_at rows other) (id_at rows place) =
      elim between [ inl ends ↦ inr ends | inr ends ↦ inl ends ] in
      let joined : AreJoined rest (id_at rows place) (id_at rows other) =
      elim (cases_Bool (leads numbers parents place other)) [
        | inl down ↦ AreJoined-turned rest (id_at rows other) (id_at rows place)
            (round rows net (leads numbers parents) (entry_at numbers) (entry_at homes) back onward
            edge place other within also between
            (λ up. one_way numbers parents place other down up))
        | inr none ↦ round rows net (leads numbers parents) (entry_at numbers) (entry_at homes) back
            onward edge other place also within turned (λ down. absurd (cc))
      ] in
      subst (AreJoined rest one.id) is_two
      (subst (λ (u : ℕ). AreJoined rest u (id_at rows other)) is_one joined)

  -- so none is a bridge
  pub strong_bridgeless : IsConnected rows → IsBridgeless rows
  strong_bridgeless connected =
      all_round rows net connected (length rows) (omega arith)
      (λ place within other in' later. strong_round place other)

module _ (rows : List NodeRow) (numbers parents homes : List ℕ) where
  -- the first places have a way in and a way home
  abbrev pub HaveWays : ℕ → Type 0
  HaveWays count =
      (place : ℕ) → 1 ≤ place → place < count
      → (list_any (is_way_in numbers parents place) (beside rows place) ≡ true)
      × (list_any (is_way_home numbers parents homes place) (beside rows place) ≡ true)

  -- and one more
  pub ways_more : (count : ℕ) → HaveWays count
      → list_any (is_way_in numbers parents count) (beside rows count) ≡ true
      → list_any (is_way_home numbers parents homes count) (beside rows count) ≡ true
      → HaveWays (count + 1)
  ways_more count before way_in way_home place some within = elim (cases_lt place count) [
    | inl earlier ↦ before place some earlier
    | inr late ↦
        let same : count ≡ place = omega (arith, late, within) in (
          subst (λ (place : ℕ). list_any (is_way_in numbers parents place) (beside rows place)
              ≡ true) same way_in,
          subst (λ (place : ℕ). list_any (is_way_home numbers parents homes place)
              (beside rows place) ≡ true) same way_home,
        )
  ]

  -- where all have, they are strong
  pub all_ways : (count : ℕ) → length rows ≤ count → HaveWays count
      → IsStrong rows numbers parents homes
  all_ways count long each =
      record {
        way_in = λ place some within. (each place some (omega (arith, long, within))).0;
        way_home = λ place some within. (each place some (omega (arith, long, within))).1;
      }
