-- Networks in which each node has two ports, and lists of nodes that go round in them.
use Rattle.std.proofs.Common.{◌≡◌, ◌≢◌, ◌∙◌, ℕ, zero, suc, ◌+◌, ◌-◌, ◌<◌, ◌≤◌, ◌⊎◌, inl, inr, true, false, Bool, ◌==◌, if◌then◌else◌, List, [], ◌∷◌, map, length, slice_get, All, Contains, Some, refl, sym, ap, subst, arith}
use Rattle.std.proofs.lemmas.Bool.{cases_eq, cases_order, eq-eqb, ne_eqb}
use Rattle.std.proofs.lemmas.List.{get_or_default}
use Rattle.std.proofs.lemmas.List.Elements.{All-contains}
use Rattle.std.proofs.lemmas.List.Folds.{find_at}
use Rattle.std.proofs.lemmas.Option.{same_Some, slice_get_within}
use Rattle.pls_configuration.specs.declared.row.Port.{Port}
use Rattle.pls_configuration.specs.declared.row.NodeRow.{NodeRow}
use Rattle.pls_configuration.specs.Configuration.{IsNetwork, has_repeat, row_of}
use Rattle.pls_configuration.specs.Walk.{Adjacent, edges_of}
use Rattle.pls_graph.specs.Places.{beside, named_places, place_in}
use Rattle.pls_graph.proofs.Beside.{beside-Adjacent, beside_row, beside_within, one_place}
use Rattle.pls_graph.proofs.Finds.{item_at}
use Rattle.pls_graph.proofs.Joined.{along}
use Rattle.pls_graph.proofs.Members.{Contains-cons_cases, Contains-from_map, place_from_Contains}
use Rattle.pls_graph.proofs.Placed.{names_another, neighbour_found, ports_differ, row_place}
use Rattle.pls_graph_edits.proofs.Changing.{All_here}
use Rattle.pls_facts.specs.SpanningTree.{AreDistinct}
use Rattle.pls_components.specs.Components.{AreJoinedAt}
use Rattle.pls_components.proofs.Apart.{beside_turned}
use Rattle.pls_splice.specs.Ring.{head_of, next_number, tail_of}

-- the two neighbours of a node
pub record HasTwo (rows : List NodeRow) (i : ℕ) : Type 0 where
  pub one : ℕ
  pub other : ℕ
  pub are : beside rows i ≡ one ∷ other ∷ []
  pub apart : one ≢ other

two_ports : (ports : List Port) → length ports ≡ 2 → (p q : Port) × (ports ≡ p ∷ q ∷ [])
two_ports [] two = absurd (cc)
two_ports (p ∷ []) two = absurd (cc)
two_ports (p ∷ q ∷ []) two = (p, q, refl)
two_ports (p ∷ q ∷ r ∷ rest) two = absurd (omega (arith, two))

one_of_two : (one other x : ℕ) (xs : List ℕ) → xs ≡ one ∷ other ∷ [] → Contains xs x
    → (x ≡ one) ⊎ (x ≡ other)
one_of_two one other x xs are in' =
    elim (Contains-cons_cases one (other ∷ []) x (subst (λ (xs : List ℕ). Contains xs x) are in')) [
      | inl e ↦ inl (sym e)
      | inr later ↦ elim (Contains-cons_cases other [] x later) [
        | inl e ↦ inr (sym e)
        | inr none ↦ let no = none.1 in absurd (omega (arith, no))
      ]
    ]

module _ (rows : List NodeRow) (net : IsNetwork rows) where
  -- the node that a port names stands at the place of its identity
  pub target : (i p : ℕ) (row : NodeRow) (port : Port) → slice_get rows i ≡ Some row
      → slice_get row.ports p ≡ Some port
      → (other : NodeRow) × (slice_get rows (place_in rows port.nbr) ≡ Some other)
      × (port.nbr ≡ other.id)
  target i p row port at has =
      let found : (other : NodeRow) × (row_of rows port.nbr ≡ Some other) =
      neighbour_found rows net i row at p port has in
      let place : (j : ℕ) × (slice_get rows j ≡ Some found.0) × (port.nbr ≡ found.0.id) =
      row_place rows net port.nbr found.0 found.1 in
      (found.0, sym (find_at (λ (row : NodeRow). port.nbr == row.id) rows) ∙ found.1, place.2)

  -- a neighbour is a node
  pub neighbour_within : (i j : ℕ) → i < length rows → Contains (beside rows i) j → j < length rows
  neighbour_within i j within in' =
      All-contains (λ (k : ℕ). k < length rows) (beside rows i) j (beside_within rows net i within) in'

  -- and not beside itself
  pub not_itself : (i : ℕ) → i < length rows → Contains (beside rows i) i → ⊥
  not_itself i within in' =
      let (row, at) : (row : NodeRow) × (slice_get rows i ≡ Some row) = item_at rows i within in
      let named : (port : Port) × Contains row.ports port × (place_in rows port.nbr ≡ i) =
      Contains-from_map (λ (port : Port). place_in rows port.nbr) row.ports i
      (subst (λ (places : List ℕ). Contains places i) (beside_row rows net i row at) in') in
      let has : (p : ℕ) × (slice_get row.ports p ≡ Some named.0) =
      place_from_Contains row.ports named.0 named.1 in
      let there : (other : NodeRow) × (slice_get rows (place_in rows named.0.nbr) ≡ Some other)
      × (named.0.nbr ≡ other.id) = target i has.0 row named.0 at has.1 in
      let same : there.0 ≡ row =
      same_Some there.0 row (sym there.1 ∙ ap (slice_get rows) named.2 ∙ at) in
      names_another rows net i row at has.0 named.0 has.1
      (sym (there.2 ∙ ap (λ (row : NodeRow). row.id) same))

  module _ (two : All (λ (row : NodeRow). length row.ports ≡ 2) rows) where
    pub has_two : (i : ℕ) → i < length rows → HasTwo rows i
    has_two i within =
        let (row, at) : (row : NodeRow) × (slice_get rows i ≡ Some row) = item_at rows i within in
        let (p, q, are) : (p q : Port) × (row.ports ≡ p ∷ q ∷ []) =
        two_ports row.ports
        (All_here (λ (row : NodeRow). length row.ports ≡ 2) rows two i row at) in
        record {
          one = place_in rows p.nbr;
          other = place_in rows q.nbr;
          are = beside_row rows net i row at ∙ ap (named_places rows) are;
          apart = λ same. both i row p q at are same;
        }
      where
        both : (i : ℕ) (row : NodeRow) (p q : Port) → slice_get rows i ≡ Some row
            → row.ports ≡ p ∷ q ∷ [] → place_in rows p.nbr ≡ place_in rows q.nbr → ⊥
        both i row p q at are same =
            let one : (other : NodeRow) × (slice_get rows (place_in rows p.nbr) ≡ Some other)
            × (p.nbr ≡ other.id) =
            target i 0 row p at (ap (λ (ports : List Port). slice_get ports 0) are) in
            let two : (other : NodeRow) × (slice_get rows (place_in rows q.nbr) ≡ Some other)
            × (q.nbr ≡ other.id) =
            target i 1 row q at (ap (λ (ports : List Port). slice_get ports 1) are) in
            let row_same : one.0 ≡ two.0 =
            same_Some one.0 two.0 (sym one.1 ∙ ap (slice_get rows) same ∙ two.1) in
            let nbr_same : (p.nbr == q.nbr) ≡ true =
            eq-eqb p.nbr q.nbr (one.2 ∙ ap (λ (row : NodeRow). row.id) row_same ∙ sym two.2) in
            let differ : has_repeat (p.nbr ∷ q.nbr ∷ []) ≡ false =
            subst (λ (ports : List Port). has_repeat (map (λ (port : Port). port.nbr) ports) ≡ false)
            are (ports_differ rows net i row at) in
            let no : true ≡ false = rw nbr_same at differ in
            absurd (cc)

    -- a third neighbour is one of two that differ
    pub only_two : (i a b c : ℕ) → i < length rows → Contains (beside rows i) a
        → Contains (beside rows i) b → Contains (beside rows i) c → a ≢ b → (c ≡ a) ⊎ (c ≡ b)
    only_two i a b c within in_a in_b in_c apart =
        let t : HasTwo rows i = has_two i within in
        elim (one_of_two t.one t.other a (beside rows i) t.are in_a) [
          | inl a_one ↦ elim (one_of_two t.one t.other b (beside rows i) t.are in_b) [
            | inl b_one ↦ absurd (apart (a_one ∙ sym b_one))
            | inr b_other ↦ elim (one_of_two t.one t.other c (beside rows i) t.are in_c) [
              | inl c_one ↦ inl (c_one ∙ sym a_one)
              | inr c_other ↦ inr (c_other ∙ sym b_other)
            ]
          ]
          | inr a_other ↦ elim (one_of_two t.one t.other b (beside rows i) t.are in_b) [
            | inr b_other ↦ absurd (apart (a_other ∙ sym b_other))
            | inl b_one ↦ elim (one_of_two t.one t.other c (beside rows i) t.are in_c) [
              | inl c_one ↦ inr (c_one ∙ sym b_one)
              | inr c_other ↦ inl (c_other ∙ sym a_other)
            ]
          ]
        ]

-- a node has this identity, and something holds of its place
record At (rows : List NodeRow) (P : ℕ → Type 0) (id : ℕ) : Type 0 where
  place : ℕ
  row : NodeRow
  at : slice_get rows place ≡ Some row
  named : row.id ≡ id
  holds : P place

-- what holds of a node and passes to its neighbours holds of all nodes that walks join to it
pub along_places : (rows : List NodeRow) → IsNetwork rows → (P : ℕ → Type 0)
    → ((i j : ℕ) → i < length rows → P i → Contains (beside rows i) j → P j)
    → (i j : ℕ) → AreJoinedAt rows i j → P i → P j
along_places rows net P passes i j joined here =
    let end : At rows P joined.other.id =
    along (edges_of rows) (At rows P) step joined.one.id joined.other.id joined.walk
    (record { place = i; row = joined.one; at = joined.there; named = refl; holds = here }) in
    subst P (one_place rows net end.place j end.row joined.other end.at joined.here end.named) end.holds
  where
    step : (u v : ℕ) → At rows P u → Adjacent (edges_of rows) u v → At rows P v
    step u v here edge =
        let next : (k : ℕ) × (node : NodeRow) × (slice_get rows k ≡ Some node) × (node.id ≡ v)
        × Contains (beside rows here.place) k =
        beside-Adjacent rows net here.place here.row here.at v
        (subst (λ (u : ℕ). Adjacent (edges_of rows) u v) (sym here.named) edge) in
        record {
          place = next.0;
          row = next.1;
          at = next.2;
          named = next.3;
          holds = passes here.place next.0 (slice_get_within rows here.place here.row here.at)
              here.holds next.4;
        }

-- a list of at least three nodes, none twice, each with an edge to the next and the last to the
-- first
pub record IsCycle (rows : List NodeRow) (cycle : List ℕ) : Type 0 where
  pub within : All (λ place. place < length rows) cycle
  pub distinct : AreDistinct cycle
  pub long : 3 ≤ length cycle
  pub edges : (i : ℕ) → i < length cycle
      → Contains (beside rows (tail_of cycle i)) (head_of cycle i)

-- what number comes next
pub next_cases : (n i : ℕ) → i < n
    → ((i + 1 ≡ n) × (next_number n i ≡ 0)) ⊎ ((i + 1 < n) × (next_number n i ≡ i + 1))
next_cases n i less = by (cases_eq (i + 1) n)
  where
    by : ((i + 1 ≡ n) ⊎ (i + 1 ≢ n))
        → ((i + 1 ≡ n) × (next_number n i ≡ 0)) ⊎ ((i + 1 < n) × (next_number n i ≡ i + 1))
    by (inl e) = inl (e, ap (λ (b : Bool). if b then 0 else i + 1) (eq-eqb (i + 1) n e))
    by (inr apart) = inr (
      elim (cases_order (i + 1) n) [
        | inl e ↦ absurd (apart e)
        | inr order ↦ elim order [ inl before ↦ before | inr after ↦ absurd (omega arith) ]
      ],
      ap (λ (b : Bool). if b then 0 else i + 1) (ne_eqb (i + 1) n apart),
    )

pub next_within : (n i : ℕ) → i < n → next_number n i < n
next_within n i less = elim (next_cases n i less) [
  | inl last ↦ let e = last.1 in omega arith
  | inr on ↦ let e = on.1 in let b = on.0 in omega arith
]

-- the number before a number is not the one behind it, where there are at least three
pub record Before (n i : ℕ) : Type 0 where
  pub number : ℕ
  pub within : number < n
  pub leads : next_number n number ≡ i
  pub apart : number ≢ next_number n i

pub before : (n i : ℕ) → 3 ≤ n → i < n → Before n i
before n zero long less = record {
  number = n - 1;
  within = omega arith;
  leads = elim (next_cases n (n - 1) (omega arith)) [
    | inl last ↦ last.1
    | inr on ↦ let b = on.0 in absurd (omega arith)
  ];
  apart = λ same. elim (next_cases n 0 less) [
    | inl last ↦ let e = last.0 in omega arith
    | inr on ↦ let e = on.1 in omega (arith, e, same)
  ];
}
before n (suc i) long less = record {
  number = i;
  within = omega arith;
  leads = elim (next_cases n i (omega arith)) [
    | inl last ↦ let e = last.0 in absurd (omega arith)
    | inr on ↦ let e = on.1 in omega arith
  ];
  apart = λ same. elim (next_cases n (suc i) less) [
    | inl last ↦ let e = last.0 in let f = last.1 in omega (arith, e, f, same)
    | inr on ↦ let e = on.1 in omega (arith, e, same)
  ];
}

-- different numbers have different nodes
pub places_differ : (places : List ℕ) → AreDistinct places → (i j : ℕ) → i < length places
    → j < length places → i ≢ j → tail_of places i ≢ tail_of places j
places_differ places distinct i j inside within apart same = elim (cases_order i j) [
  | inl e ↦ apart e
  | inr order ↦ elim order [
    | inl less ↦ distinct i j 0 less within same
    | inr more ↦ distinct j i 0 more inside (sym same)
  ]
]

pub tail_in : (places : List ℕ) (i : ℕ) → i < length places → Contains places (tail_of places i)
tail_in places i within =
    (i, within, get_or_default places i (tail_of places i) 0 within)

pub number_of : (places : List ℕ) (place : ℕ) → Contains places place
    → (i : ℕ) × (i < length places) × (tail_of places i ≡ place)
number_of places place in' = (
  in'.0,
  in'.1,
  get_or_default places in'.0 0 place in'.1 ∙ in'.2,
)

module _ (rows : List NodeRow) (net : IsNetwork rows)
    (two : All (λ (row : NodeRow). length row.ports ≡ 2) rows) (cycle : List ℕ)
    (is : IsCycle rows cycle) where
  tail_within : (i : ℕ) → i < length cycle → tail_of cycle i < length rows
  tail_within i inside = is.within i 0 inside

  -- the neighbours of a node are those before and behind it
  pub neighbour_cases : (i other : ℕ) (inside : i < length cycle)
      → Contains (beside rows (tail_of cycle i)) other
      → (other ≡ tail_of cycle (before (length cycle) i is.long inside).number)
      ⊎ (other ≡ head_of cycle i)
  neighbour_cases i other inside in' =
      let b : Before (length cycle) i = before (length cycle) i is.long inside in
      let leads : head_of cycle b.number ≡ tail_of cycle i = ap (tail_of cycle) b.leads in
      let back : Contains (beside rows (tail_of cycle i)) (tail_of cycle b.number) =
      beside_turned rows net (tail_of cycle b.number) (tail_of cycle i) (tail_within b.number b.within)
      (subst (Contains (beside rows (tail_of cycle b.number))) leads (is.edges b.number b.within)) in
      only_two rows net two (tail_of cycle i) (tail_of cycle b.number) (head_of cycle i) other
      (tail_within i inside) back (is.edges i inside) in'
      (places_differ cycle is.distinct b.number (next_number (length cycle) i) b.within
      (next_within (length cycle) i inside) b.apart)

  -- so no edge leads out
  pub closed : (place other : ℕ) → Contains cycle place → Contains (beside rows place) other
      → Contains cycle other
  closed place other in' step =
      let (i, inside, here) : (i : ℕ) × (i < length cycle) × (tail_of cycle i ≡ place) =
      number_of cycle place in' in
      let b : Before (length cycle) i = before (length cycle) i is.long inside in
      elim (neighbour_cases i other inside
      (subst (λ (place : ℕ). Contains (beside rows place) other) (sym here) step)) [
        | inl back ↦ subst (Contains cycle) (sym back) (tail_in cycle b.number b.within)
        | inr on ↦ subst (Contains cycle) (sym on)
            (tail_in cycle (next_number (length cycle) i) (next_within (length cycle) i inside))
      ]
