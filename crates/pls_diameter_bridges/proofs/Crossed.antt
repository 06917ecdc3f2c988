-- An edge is a bridge exactly where it alone leads from the nodes nearer to its one end to the
-- others.
use Rattle.std.proofs.Common.{min, ◌≡◌, ◌≢◌, ◌∙◌, ℕ, ◌+◌, ◌<◌, ◌≤◌, inl, inr, Bool, true, false, not, ◌==◌, ◌&&◌, ◌||◌, List, [], ◌∷◌, length, Contains, Option, Some, slice_get, refl, sym, ap, subst, arith}
use Rattle.std.specs.List.{list_all}
use Rattle.std.proofs.lemmas.Bool.{and_cases, and_from, and_parts, cases_lt, cases_order, eq-eqb, eqb-true, lt-ltb, ltb-false, ltb-true, not-false, not-true, or_cases, or_parts}
use Rattle.std.proofs.lemmas.List.Elements.{All-contains}
use Rattle.std.proofs.lemmas.Option.{same_Some, slice_get_within}
use Rattle.pls_configuration.specs.declared.row.NodeRow.{NodeRow}
use Rattle.pls_configuration.specs.Configuration.{IsNetwork}
use Rattle.pls_configuration.specs.Walk.{Adjacent, AreJoined, Edge, IsConnected, Joins, Walk, edges_of}
use Rattle.pls_graph.specs.Levels.{AreLevels, IsLevel}
use Rattle.pls_graph.specs.Places.{beside}
use Rattle.pls_graph.proofs.Beside.{Adjacent-beside, beside-Adjacent, beside_within, one_place}
use Rattle.pls_graph.proofs.Joined.{Adjacent-turned, AreJoined-adjacent, AreJoined-through, AreJoined-turned, along}
use Rattle.pls_graph.proofs.Members.{Contains-first, Contains-from_map, Contains-from_place, Contains-later, Contains-map, place_from_Contains}
use Rattle.pls_graph.proofs.Placed.{ids_rise}
use Rattle.pls_facts.proofs.Decided.{cases_Edge}
use Rattle.pls_facts.proofs.Levels.{known_level}
use Rattle.pls_graph.proofs.Finds.{item_at}
use Rattle.pls_facts.proofs.Neighbours.{Leads, adjacent_known, leads, port_adjacent}
use Rattle.pls_facts.proofs.PortEdges.{IsAtPort, ports_of_edge}
use Rattle.pls_diameter_bridges.specs.Bridgeless.{IsBridgeless, without}
use Rattle.pls_diameter_bridges.specs.inner.Crossing.{HasWayRound, HaveWaysRound, IsCrossedElsewhere, IsOnlyCrossing, is_allowed, is_nearer, level_at, level_in}
use Rattle.pls_diameter_bridges.proofs.Rest.{avoids, is_left, one_edge, same_ends, step_left, was_other}

-- where not all items pass, one fails
pub fails_somewhere : {X : Type 0} (p : X → Bool) (xs : List X) → list_all p xs ≡ false
    → (x : X) × Contains xs x × (p x ≡ false)
fails_somewhere p [] fails = absurd (cc)
fails_somewhere p (first ∷ xs) fails = elim (and_cases (p first) (list_all p xs) fails) [
  | inl here ↦ (first, Contains-first first xs, here)
  | inr later ↦
      let rest = fails_somewhere p xs later in
      (rest.0, Contains-later first xs rest.0 rest.1, rest.2)
]

-- nodes on a level above 0 are two
some_level : (edges : List Edge) (u v count : ℕ) → IsLevel edges u v count → u ≢ v → 1 ≤ count
some_level edges u v count level apart = by level.nodes refl
  where
    by : (nodes : List ℕ) → level.nodes ≡ nodes → 1 ≤ count
    by [] same =
        let none : length level.nodes ≡ 0 = ap (λ (nodes : List ℕ). length nodes) same in
        absurd (apart (stays level.nodes same level.walk))
      where
        stays : (nodes : List ℕ) → nodes ≡ [] → Walk edges u nodes v → u ≡ v
        stays [] same walk = walk
        stays (x ∷ xs) same walk = absurd (cc)
    by (x ∷ nodes) same =
        let many : length level.nodes ≡ length (x ∷ nodes) =
        ap (λ (nodes : List ℕ). length nodes) same in
        omega (arith, many, level.many)

-- the level that is found is that of the node
level_found : (rows : List NodeRow) → IsConnected rows → (root : ℕ) (found : List (Option ℕ))
    → AreLevels rows root found → (first row : NodeRow) (place : ℕ)
    → slice_get rows root ≡ Some first → slice_get rows place ≡ Some row
    → IsLevel (edges_of rows) first.id row.id (level_at found place)
level_found rows connected root found levels first row place at_first at =
    let known = known_level rows root found connected levels first row place at_first at in
    subst (IsLevel (edges_of rows) first.id row.id) (sym (ap level_in known.1)) known.2

module _ (rows : List NodeRow) (net : IsNetwork rows) (connected : IsConnected rows)
    (place other : ℕ) (near far : List (Option ℕ)) (near_levels : AreLevels rows place near)
    (far_levels : AreLevels rows other far) (beside_it : Contains (beside rows place) other)
    (one two : NodeRow) (at_one : slice_get rows place ≡ Some one)
    (at_two : slice_get rows other ≡ Some two) where
  edges : List Edge
  edges = edges_of rows

  step : Adjacent (edges_of rows) one.id two.id
  step = Adjacent-beside rows net place one at_one other two at_two beside_it

  apart : one.id ≢ two.id
  apart same =
      let way : Leads rows one.id two.id = leads rows net one.id two.id step in
      (port_adjacent rows net way.row way.port way.in' way.has).1
      (way.owner ∙ same ∙ sym way.names)

  from_one : (p : ℕ) (row : NodeRow) → slice_get rows p ≡ Some row
      → IsLevel (edges_of rows) one.id row.id (level_at near p)
  from_one p row at = level_found rows connected place near near_levels one row p at_one at

  from_two : (p : ℕ) (row : NodeRow) → slice_get rows p ≡ Some row
      → IsLevel (edges_of rows) two.id row.id (level_at far p)
  from_two p row at = level_found rows connected other far far_levels two row p at_two at

  -- the first end is nearer to itself, and the second is not
  first_nearer : is_nearer near far place ≡ true
  first_nearer =
      let here = (from_one place one at_one).fewest [] refl in
      let there = some_level (edges_of rows) two.id one.id (level_at far place)
      (from_two place one at_one) (λ same. apart (sym same)) in
      lt-ltb (level_at near place) (level_at far place) (omega (arith, here, there))

  second_farther : is_nearer near far other ≡ true → ⊥
  second_farther nearer =
      let here = (from_two other two at_two).fewest [] refl in
      let less = ltb-true (level_at near other) (level_at far other) nearer in
      omega (arith, here, less)

  -- where the edge alone crosses, there is no way round it
  only_blocks : IsOnlyCrossing rows near far place other → HasWayRound rows place other → ⊥
  only_blocks only way =
      second_farther (along (without step.0 (edges_of rows)) Nearer passes one.id two.id
      (way one two step.0 at_one at_two step.1 step.2) start other two at_two refl)
    where
      Nearer : ℕ → Type 0
      Nearer v = (k : ℕ) (row : NodeRow) → slice_get rows k ≡ Some row → row.id ≡ v
          → is_nearer near far k ≡ true

      start : Nearer one.id
      start k row at is =
          subst (λ (k : ℕ). is_nearer near far k ≡ true)
          (sym (one_place rows net k place row one at at_one is)) first_nearer

      passes : (u v : ℕ) → Nearer u → Adjacent (without step.0 (edges_of rows)) u v → Nearer v
      passes u v here (along_it, left, joins) k row at is =
          let (was, differs) : Contains (edges_of rows) along_it × (along_it ≢ step.0) =
          was_other (edges_of rows) step.0 along_it left in
          let (from, from_in, from_is) : (from : NodeRow) × Contains rows from × (from.id ≡ u) =
          Contains-from_map (λ (row : NodeRow). row.id) rows u (adjacent_known rows net v u
          (Adjacent-turned (edges_of rows) u v (along_it, was, joins))) in
          let (p, at_p) : (p : ℕ) × (slice_get rows p ≡ Some from) =
          place_from_Contains rows from from_in in
          let (q, to, at_q, to_is, in_q) : (q : ℕ) × (to : NodeRow) × (slice_get rows q ≡ Some to)
          × (to.id ≡ v) × Contains (beside rows p) q =
          beside-Adjacent rows net p from at_p v
          (subst (λ (u : ℕ). Adjacent (edges_of rows) u v) (sym from_is) (along_it, was, joins)) in
          let same_place : q ≡ k = one_place rows net q k to row at_q at (to_is ∙ sym is) in
          subst (λ (k : ℕ). is_nearer near far k ≡ true) same_place
          (elim (or_cases (not (is_nearer near far p) || is_nearer near far q)
          (p == place && q == other) (only p q (slice_get_within rows p from at_p) in_q)) [
            | inl crossed ↦ elim (or_cases (not (is_nearer near far p)) (is_nearer near far q)
                crossed) [
                  | inl farther ↦
                      let yes = here p from at_p from_is in
                      let no = not-true (is_nearer near far p) farther in
                      absurd (cc)
                  | inr nearer ↦ nearer
                ]
            | inr ends ↦
                let both = and_parts (p == place) (q == other) ends in
                let from_one : from ≡ one = same_Some from one (sym at_p
                ∙ ap (slice_get rows) (eqb-true p place both.0) ∙ at_one) in
                let to_two : to ≡ two = same_Some to two (sym at_q
                ∙ ap (slice_get rows) (eqb-true q other both.1) ∙ at_two) in
                let u_is : u ≡ one.id = sym from_is ∙ ap (λ (row : NodeRow). row.id) from_one in
                let v_is : v ≡ two.id = sym to_is ∙ ap (λ (row : NodeRow). row.id) to_two in
                let moved : Joins along_it one.id two.id =
                subst (λ (v : ℕ). Joins along_it one.id v) v_is
                (subst (λ (u : ℕ). Joins along_it u v) u_is joins) in
                absurd (differs (one_edge rows net along_it step.0 was step.1 one.id two.id moved
                step.2))
          ])

  -- where another port crosses, there is
  crossing_opens : (p q : ℕ) → p < length rows → Contains (beside rows p) q
      → is_allowed near far place other p q ≡ false → (edge : Edge)
      → Contains (edges_of rows) edge → Joins edge one.id two.id
      → AreJoined (without edge (edges_of rows)) one.id two.id
  crossing_opens p q within in_q crosses edge in' joins =
      let rest : List Edge = without edge (edges_of rows) in
      let parts = or_parts (not (is_nearer near far p) || is_nearer near far q)
      (p == place && q == other) crosses in
      let sides = or_parts (not (is_nearer near far p)) (is_nearer near far q) parts.0 in
      let nearer : is_nearer near far p ≡ true = not-false (is_nearer near far p) sides.0 in
      let less = ltb-true (level_at near p) (level_at far p) nearer in
      let more = ltb-false (level_at near q) (level_at far q) sides.1 in
      let inside : q < length rows =
      All-contains (λ k. k < length rows) (beside rows p) q (beside_within rows net p within) in_q in
      let (from, at_p) : (from : NodeRow) × (slice_get rows p ≡ Some from) =
      item_at rows p within in
      let (to, at_q) : (to : NodeRow) × (slice_get rows q ≡ Some to) = item_at rows q inside in
      let across : Adjacent (edges_of rows) from.id to.id =
      Adjacent-beside rows net p from at_p q to at_q in_q in
      let differs : Joins edge from.id to.id → ⊥ =
      λ between. elim (same_ends (edges_of rows) edge one.id two.id from.id to.id joins between) [
        | inl same ↦
            let yes : (p == place && q == other) ≡ true = and_from (p == place) (q == other)
            (eq-eqb p place (one_place rows net p place from one at_p at_one same.0))
            (eq-eqb q other (one_place rows net q other to two at_q at_two same.1)) in
            let no = parts.1 in
            absurd (cc)
        | inr turned ↦ second_farther (subst (λ (p : ℕ). is_nearer near far p ≡ true)
            (one_place rows net p other from two at_p at_two turned.0) nearer)
      ] in
      let here : IsLevel (edges_of rows) one.id from.id (level_at near p) = from_one p from at_p in
      let also : IsLevel (edges_of rows) two.id from.id (level_at far p) = from_two p from at_p in
      let there : IsLevel (edges_of rows) two.id to.id (level_at far q) = from_two q to at_q in
      let too : IsLevel (edges_of rows) one.id to.id (level_at near q) = from_one q to at_q in
      let first : AreJoined rest one.id from.id = (
        here.nodes,
        avoids (edges_of rows) edge one.id two.id joins one.id from.id here.nodes here.walk apart
            (λ others walk. let long = also.fewest others walk in
            omega (arith, long, less, here.many)),
      ) in
      let back : Joins edge two.id one.id = elim joins [ inl ends ↦ inr ends | inr ends ↦ inl ends ] in
      let last : AreJoined rest two.id to.id = (
        there.nodes,
        avoids (edges_of rows) edge two.id one.id back two.id to.id there.nodes there.walk
            (λ same. apart (sym same))
            (λ others walk. let long = too.fewest others walk in
            omega (arith, long, more, there.many)),
      ) in
      AreJoined-through rest one.id from.id two.id first
      (AreJoined-through rest from.id to.id two.id
      (AreJoined-adjacent rest from.id to.id
      (step_left (edges_of rows) edge from.id to.id across differs))
      (AreJoined-turned rest two.id to.id last))

module _ (rows : List NodeRow) (net : IsNetwork rows) (connected : IsConnected rows)
    (place other : ℕ) (near far : List (Option ℕ)) (near_levels : AreLevels rows place near)
    (far_levels : AreLevels rows other far) (beside_it : Contains (beside rows place) other) where
  -- so where another port crosses, there is a way round
  pub opened : IsCrossedElsewhere rows near far place other → HasWayRound rows place other
  opened (p, q, within, in_q, crosses) one two edge at_one at_two in' joins =
      crossing_opens rows net connected place other near far near_levels far_levels beside_it one
      two at_one at_two p q within in_q crosses edge in' joins

  -- and else none
  pub blocked : place < length rows → IsOnlyCrossing rows near far place other
      → HasWayRound rows place other → ⊥
  blocked within only way =
      let (one, at_one) : (one : NodeRow) × (slice_get rows place ≡ Some one) =
      item_at rows place within in
      let inside : other < length rows =
      All-contains (λ k. k < length rows) (beside rows place) other
      (beside_within rows net place within) beside_it in
      let (two, at_two) : (two : NodeRow) × (slice_get rows other ≡ Some two) =
      item_at rows other inside in
      only_blocks rows net connected place other near far near_levels far_levels beside_it one two
      at_one at_two only way

module _ (rows : List NodeRow) where
  -- without a bridge, there is a way round each edge
  pub way_round : IsBridgeless rows → (place other : ℕ) → HasWayRound rows place other
  way_round holds place other one two edge at_one at_two in_edge joins =
      holds edge in_edge one.id two.id
      (Contains-map (λ (row : NodeRow). row.id) rows one (Contains-from_place rows place one at_one))
      (Contains-map (λ (row : NodeRow). row.id) rows two (Contains-from_place rows other two at_two))

  pub ways_round : IsBridgeless rows → (place : ℕ) → HaveWaysRound rows place
  ways_round holds place other in' later = way_round holds place other

  -- the edges of the first nodes have ways round
  abbrev pub RoundSoFar : ℕ → Type 0
  RoundSoFar count = (place : ℕ) → place < count → HaveWaysRound rows place

  pub round_more : (count : ℕ) → RoundSoFar count → HaveWaysRound rows count
      → RoundSoFar (count + 1)
  round_more count before here place within = elim (cases_lt place count) [
    | inl earlier ↦ before place earlier
    | inr late ↦ subst (HaveWaysRound rows) (omega (arith, late, within)) here
  ]

  -- where all have, there is no bridge
  pub all_round : IsNetwork rows → IsConnected rows → (count : ℕ) → length rows ≤ count
      → RoundSoFar count → IsBridgeless rows
  all_round net connected count long each edge in' u v in_u in_v =
      along (edges_of rows) (AreJoined rest u) passes u v (connected u v in_u in_v) ([], refl)
    where
      rest : List Edge
      rest = without edge (edges_of rows)

      port : IsAtPort rows edge edge.a edge.b
      port = (ports_of_edge rows net edge in').0

      there : (k : ℕ) × (other : NodeRow) × (slice_get rows k ≡ Some other) × (other.id ≡ edge.b)
          × Contains (beside rows port.place) k
      there = beside-Adjacent rows net port.place port.row port.at edge.b
          (edge, in', inl (sym port.owner, refl))

      joins : Joins edge port.row.id there.1.id
      joins = inl (sym port.owner, sym there.3)

      -- the smaller end stands first
      later : port.place < there.0
      later =
          let apart = (port_adjacent rows net port.row port.port
          (Contains-from_place rows port.place port.row port.at)
          (Contains-from_place port.row.ports port.number port.port port.has)).1 in
          let smaller : min port.row.id port.port.nbr ≡ edge.a =
          ap (λ (edge : Edge). edge.a) port.is in
          let less : port.row.id < there.1.id =
          elim (cases_order port.row.id port.port.nbr) [
            | inl same ↦ absurd (apart same)
            | inr order ↦ elim order [
              | inl up ↦ omega (arith, up, port.names, there.3)
              | inr down ↦ absurd (omega (arith, down, smaller, port.owner))
            ]
          ] in
          elim (cases_order port.place there.0) [
            | inl same ↦
                let one : port.row ≡ there.1 = same_Some port.row there.1 (sym port.at
                ∙ ap (slice_get rows) same ∙ there.2) in
                let ids = ap (λ (row : NodeRow). row.id) one in
                absurd (omega (arith, ids, less))
            | inr order ↦ elim order [
              | inl before ↦ before
              | inr after ↦
                  let rise = ids_rise rows net there.0 port.place there.1 port.row after there.2
                  port.at in
                  absurd (omega (arith, rise, less))
            ]
          ]

      way : AreJoined (without edge (edges_of rows)) port.row.id there.1.id
      way = each port.place (omega (arith, long, slice_get_within rows port.place port.row port.at))
          there.0 there.4 later port.row there.1 edge port.at there.2 in' joins

      passes : (w x : ℕ) → AreJoined (without edge (edges_of rows)) u w
          → Adjacent (edges_of rows) w x → AreJoined (without edge (edges_of rows)) u x
      passes w x here (other, other_in, between) = elim (cases_Edge other edge) [
        | inr differs ↦ AreJoined-through (without edge (edges_of rows)) u w x here
            (AreJoined-adjacent (without edge (edges_of rows)) w x
            (other, is_left (edges_of rows) edge other other_in differs, between))
        | inl same ↦ AreJoined-through (without edge (edges_of rows)) u w x here
            (elim (same_ends (edges_of rows) edge port.row.id there.1.id w x joins
            (subst (λ (other : Edge). Joins other w x) same between)) [
              | inl ends ↦
                  subst (λ (x : ℕ). AreJoined (without edge (edges_of rows)) w x) (sym ends.1)
                  (subst (λ (w : ℕ). AreJoined (without edge (edges_of rows)) w there.1.id)
                  (sym ends.0) way)
              | inr ends ↦
                  subst (λ (x : ℕ). AreJoined (without edge (edges_of rows)) w x) (sym ends.1)
                  (subst (λ (w : ℕ). AreJoined (without edge (edges_of rows)) w port.row.id)
                  (sym ends.0)
                  (AreJoined-turned (without edge (edges_of rows)) port.row.id there.1.id way))
            ])
      ]
