-- A search by weights enters the place that comes first.
use Rattle.std.proofs.Common.{◌≡◌, ◌≢◌, ◌∙◌, ℕ, ◌+◌, ◌^◌, ◌<◌, ◌≤◌, ◌⊎◌, inl, inr, false, List, [], ◌∷◌, ◌++◌, map, length, set, count_by, Contains, All, IsPermutation, slice_get, slice_index_or, is_some, is_none, is_lt, Ordering, Less, Equal, Greater, nat_cmp, Option, Some, None, refl, sym, ap, subst, arith, get_or-set_same, get_or-set_other}
use Rattle.std.specs.BinaryHeap.{IsUpperBound}
use Rattle.std.specs.Ordering.{ordering_then}
use Rattle.std.proofs.lemmas.Bool.{cases_eq}
use Rattle.std.proofs.lemmas.List.{length-set}
use Rattle.std.proofs.lemmas.List.Elements.{All-contains, Contains-append_cases, Contains-append_left, Contains-append_right}
use Rattle.std.proofs.lemmas.List.Sorted.{Contains-permutation, IsPermutation-sym}
use Rattle.std.proofs.lemmas.Option.{same_Some, slice_get_within}
use Rattle.pls_configuration.specs.declared.row.Port.{Port}
use Rattle.pls_configuration.specs.declared.row.NodeRow.{NodeRow}
use Rattle.pls_configuration.specs.Configuration.{IsNetwork}
use Rattle.pls_configuration.specs.Walk.{Adjacent, edges_of}
use Rattle.pls_graph.specs.Places.{place_in}
use Rattle.pls_graph.proofs.Finds.{None-is_some}
use Rattle.pls_configuration.proofs.Walks.{WalkBy-append}
use Rattle.pls_graph.proofs.Members.{Contains-cons_cases, Contains-from_map, Contains-from_place, Contains-map}
use Rattle.pls_facts.specs.Weight.{edge_weight}
use Rattle.pls_facts.proofs.NamedPlaces.{port_named}
use Rattle.pls_facts.proofs.Neighbours.{port_adjacent}
use Rattle.pls_facts.proofs.Weights.{port_weighs, walk_weight-step}
use Rattle.pls_search.specs.inner.Ahead.{Ahead, by_weight, reached_at}
use Rattle.pls_search.specs.inner.Noting.{IsNoted}
use Rattle.pls_search.proofs.Reaching.{IsReached, Reaching, WalkWeighs, fewer_left, first_was, first_within, left, was}

-- where the first test of two is not less, it is none
first_not_less : (a b : Ordering) → is_lt (ordering_then a b) ≡ false → is_lt a ≡ false
first_not_less Less b e = e
first_not_less Equal b e = refl
first_not_less Greater b e = e

-- the one that comes first is the lightest
pub lightest : (first : Ahead) (ahead : List Ahead) → IsUpperBound by_weight first ahead
    → (entry : Ahead) → Contains ahead entry → first.0.0 ≤ entry.0.0
lightest first [] least entry in' = absurd (omega (arith, in'.1))
lightest first (other ∷ ahead) least entry in' = elim (Contains-cons_cases other ahead entry in') [
  | inl same ↦
      let apart : is_lt (nat_cmp other.0.0 first.0.0) ≡ false =
      first_not_less (nat_cmp other.0.0 first.0.0) (nat_cmp other.0.1 first.0.1) least.0 in
      subst (λ (entry : Ahead). first.0.0 ≤ entry.0.0) same
      (not_less other.0.0 first.0.0 apart)
  | inr later ↦ lightest first ahead least.1 entry later
]
  where
    not_less : (a b : ℕ) → is_lt (nat_cmp a b) ≡ false → b ≤ a
    not_less a b e = grind (arith, e)

module _ (rows : List NodeRow) (net : IsNetwork rows) (root : ℕ) (found : List (Option ℕ))
    (old : List Ahead) (first : Ahead) (rest : List Ahead)
    (shuffled : IsPermutation old (first ∷ rest)) (before : Reaching rows root found old) where
  -- the place of the first is entered, and its neighbours stand ahead as well
  module _ (least : IsUpperBound by_weight first old) (row : NodeRow)
      (at_row : slice_get rows first.0.1 ≡ Some row)
      (none : is_some (slice_index_or found first.0.1 None) ≡ false)
      (light : All (λ (port : Port). port.weight < 2 ^ 32) row.ports) (newer : List Ahead)
      (added : IsPermutation (rest ++ map (reached_at rows first.0.0) row.ports) newer) where
    abbrev later : List (Option ℕ)
    later = set found first.0.1 (Some first.0.0)

    stood_first : Contains old first
    stood_first = first_was rows net root found old first rest shuffled before

    was_ahead : (entry : Ahead) → Contains rest entry → Contains old entry
    was_ahead = was rows net root found old first rest shuffled before

    in_rows : Contains rows row
    in_rows = Contains-from_place rows first.0.1 row at_row

    within_found : first.0.1 < length found
    within_found = omega
        (arith, first_within rows net root found old first rest shuffled before, before.size)

    blank : slice_index_or found first.0.1 None ≡ None
    blank = None-is_some (slice_index_or found first.0.1 None) none

    here : IsNoted later first.0.1 first.0.0
    here = get_or-set_same found first.0.1 (Some first.0.0) None within_found

    elsewhere : (place : ℕ) → place ≢ first.0.1
        → slice_index_or later place None ≡ slice_index_or found place None
    elsewhere place apart =
        get_or-set_other found first.0.1 place (Some first.0.0) None apart

    -- what is found now is the first, or was found
    noted : (place weight : ℕ) → IsNoted later place weight
        → ((place ≡ first.0.1) × (weight ≡ first.0.0)) ⊎ IsNoted found place weight
    noted place weight is = elim (cases_eq place first.0.1) [
      | inl same ↦
          let now : IsNoted later first.0.1 weight =
          subst (λ (place : ℕ). IsNoted later place weight) same is in
          inl (same, same_Some weight first.0.0 (sym now ∙ here))
      | inr apart ↦ inr (sym (elsewhere place apart) ∙ is)
    ]

    stay : (place weight : ℕ) → IsNoted found place weight → IsNoted later place weight
    stay place weight is = elim (cases_eq place first.0.1) [
      | inl same ↦ absurd (clash (subst (λ (place : ℕ). IsNoted found place weight) same is))
      | inr apart ↦ elsewhere place apart ∙ is
    ]
      where
        clash : IsNoted found first.0.1 weight → ⊥
        clash is = let no : None ≡ Some weight = sym blank ∙ is in absurd (cc)

    kept : (entry : Ahead) → Contains rest entry → Contains newer entry
    kept entry in' = Contains-permutation (rest ++ map (reached_at rows first.0.0) row.ports) newer
        entry added
        (Contains-append_left rest (map (reached_at rows first.0.0) row.ports) entry in')

    stands : (port : Port) → Contains row.ports port
        → Contains newer (reached_at rows first.0.0 port)
    stands port has = Contains-permutation (rest ++ map (reached_at rows first.0.0) row.ports) newer
        (reached_at rows first.0.0 port) added
        (Contains-append_right rest (map (reached_at rows first.0.0) row.ports)
        (reached_at rows first.0.0 port)
        (Contains-map (reached_at rows first.0.0) row.ports port has))

    -- what stands ahead now was left, or is a neighbour
    split : (entry : Ahead) → Contains newer entry → Contains rest entry
        ⊎ ((port : Port) × Contains row.ports port × (reached_at rows first.0.0 port ≡ entry))
    split entry in' =
        elim (Contains-append_cases rest (map (reached_at rows first.0.0) row.ports) entry
        (Contains-permutation newer (rest ++ map (reached_at rows first.0.0) row.ports) entry
        (IsPermutation-sym (rest ++ map (reached_at rows first.0.0) row.ports) newer added) in')) [
          | inl old ↦ inl old
          | inr new ↦ inr (Contains-from_map (reached_at rows first.0.0) row.ports entry new)
        ]

    moved : (place most : ℕ) → IsReached found old place most → IsReached later newer place most
    moved place most (inl (weight, is, few)) = inl (weight, stay place weight is, few)
    moved place most (inr (entry, in', is_place, few)) =
        elim (left rows net root found old first rest shuffled before entry in') [
          | inl same ↦
              let is : first.0.1 ≡ place = ap (λ (entry : Ahead). entry.0.1) same ∙ is_place in
              let light : first.0.0 ≡ entry.0.0 = ap (λ (entry : Ahead). entry.0.0) same in
              inl (
                first.0.0,
                subst (λ (place : ℕ). IsNoted later place first.0.0) is here,
                omega (arith, light, few),
              )
          | inr remains ↦ inr (entry, kept entry remains, is_place, few)
        ]

    -- a walk to the place that is entered goes on to a neighbour
    through : (start other : NodeRow) (port : Port) → slice_get rows root ≡ Some start
        → Contains row.ports port → slice_get rows (place_in rows port.nbr) ≡ Some other
        → WalkWeighs rows start.id other.id (first.0.0 + port.weight)
    through start other port at has there =
        let (nodes, walk, weighs) : WalkWeighs rows start.id row.id first.0.0 =
        before.onward start row first at at_row stood_first in
        let named : (other : NodeRow) × (slice_get rows (place_in rows port.nbr) ≡ Some other)
        × (other.id ≡ port.nbr) = port_named rows net row port in_rows has in
        let same : named.0 ≡ other = same_Some named.0 other (sym named.1 ∙ there) in
        let is : port.nbr ≡ other.id =
        sym named.2 ∙ ap (λ (row : NodeRow). row.id) same in
        let adjacent : Adjacent (edges_of rows) row.id other.id =
        subst (Adjacent (edges_of rows) row.id) is
        (port_adjacent rows net row port in_rows has).0 in
        let edge : edge_weight rows row.id other.id ≡ port.weight =
        subst (λ (v : ℕ). edge_weight rows row.id v ≡ port.weight) is
        (port_weighs rows net row port in_rows has) in (
          nodes ++ other.id ∷ [],
          WalkBy-append (Adjacent (edges_of rows)) start.id row.id other.id nodes (other.id ∷ []) walk
              (adjacent, refl),
          omega (arith, walk_weight-step rows start.id row.id other.id nodes walk, weighs, edge),
        )

    fewer : count_by is_none later + 1 ≡ count_by is_none found
    fewer = fewer_left rows net root found old first rest shuffled before none

    pub Reaching-entered : Reaching rows root later newer
    Reaching-entered = record {
      size = length-set found first.0.1 (Some first.0.0) ∙ before.size;
      start = moved root 0 before.start;
      walk = λ start row place weight at there is. elim (noted place weight is) [
        | inl same ↦
            let light : first.0.0 ≡ weight = sym same.1 in
            subst (WalkWeighs rows start.id row.id) light
            (before.onward start row first at
            (ap (slice_get rows) (sym same.0) ∙ there) stood_first)
        | inr old ↦ before.walk start row place weight at there old
      ];
      onward = λ start other entry at there in'. elim (split entry in') [
        | inl old ↦ before.onward start other entry at there (was_ahead entry old)
        | inr new ↦
            let place : place_in rows new.0.nbr ≡ entry.0.1 =
            ap (λ (entry : Ahead). entry.0.1) new.2 in
            let weight : first.0.0 + new.0.weight ≡ entry.0.0 =
            ap (λ (entry : Ahead). entry.0.0) new.2 in
            subst (WalkWeighs rows start.id other.id) weight
            (through start other new.0 at new.1 (ap (slice_get rows) place ∙ there))
      ];
      within = λ entry in'. elim (split entry in') [
        | inl old ↦ before.within entry (was_ahead entry old)
        | inr new ↦
            let place : place_in rows new.0.nbr ≡ entry.0.1 =
            ap (λ (entry : Ahead). entry.0.1) new.2 in
            let named : (other : NodeRow)
            × (slice_get rows (place_in rows new.0.nbr) ≡ Some other)
            × (other.id ≡ new.0.nbr) = port_named rows net row new.0 in_rows new.1 in
            subst (λ (place : ℕ). place < length rows) place
            (slice_get_within rows (place_in rows new.0.nbr) named.0 named.1)
      ];
      ordered = λ place weight entry is in'.
          let most : weight ≤ first.0.0 = elim (noted place weight is) [
            | inl same ↦ omega (arith, same.1)
            | inr known ↦ before.ordered place weight first known stood_first
          ] in
          let less : first.0.0 ≤ entry.0.0 = elim (split entry in') [
            | inl waits ↦ lightest first old least entry (was_ahead entry waits)
            | inr new ↦
                let weight : first.0.0 + new.0.weight ≡ entry.0.0 =
                ap (λ (entry : Ahead). entry.0.0) new.2 in omega (arith, weight)
          ] in
          omega (arith, most, less);
      small = λ entry in'. elim (split entry in') [
        | inl old ↦
            let small = before.small entry (was_ahead entry old) in
            omega (arith, small, fewer)
        | inr new ↦
            let weight : first.0.0 + new.0.weight ≡ entry.0.0 =
            ap (λ (entry : Ahead). entry.0.0) new.2 in
            let small = before.small first stood_first in
            let few : new.0.weight < 2 ^ 32 =
            All-contains (λ (port : Port). port.weight < 2 ^ 32) row.ports new.0 light new.1 in
            omega (arith, weight, small, fewer, few)
      ];
      closed = λ place weight other port is there has. elim (noted place weight is) [
        | inl same ↦
            let one : row ≡ other =
            same_Some row other (sym at_row ∙ ap (slice_get rows) (sym same.0) ∙ there) in
            let mine : Contains row.ports port =
            subst (λ (row : NodeRow). Contains row.ports port) (sym one) has in
            inr (reached_at rows first.0.0 port, stands port mine, refl, omega (arith, same.1))
        | inr old ↦
            moved (place_in rows port.nbr) (weight + port.weight)
            (before.closed place weight other port old there has)
      ];
    }
