-- The ends of two edges of a ring that may be crossed.
use Rattle.std.proofs.Common.{◌≡◌, ◌≢◌, ◌∙◌, ℕ, ◌+◌, ◌<◌, ◌⊎◌, inl, inr, Bool, List, length, slice_get, Contains, Option, Some, refl, sym, ap, subst, arith}
use Rattle.std.proofs.lemmas.Option.{same_Some}
use Rattle.std.specs.Option.{option_map_or}
use Rattle.pls_configuration.specs.declared.row.Port.{Port}
use Rattle.pls_configuration.specs.declared.row.NodeRow.{NodeRow}
use Rattle.pls_configuration.specs.Configuration.{IsNetwork, port_to, row_of}
use Rattle.pls_graph.specs.Places.{beside, place_in}
use Rattle.pls_graph.proofs.Beside.{beside_row, one_place}
use Rattle.pls_graph.proofs.Finds.{item_at}
use Rattle.pls_graph.proofs.Members.{Contains-from_map, Contains-from_place, Contains-map, place_from_Contains}
use Rattle.pls_graph.proofs.Placed.{WayBack, port_of_place, row_of_place, way_back}
use Rattle.pls_splice.specs.Crossing.{IsPair, ends_of, id_at, weight_between}
use Rattle.pls_splice.specs.Ring.{IsRingOrder, head_of, next_number, tail_of}
use Rattle.pls_splice.proofs.Swapping.{AreApart}
use Rattle.pls_splice.proofs.Turning.{Before, IsCycle, before, neighbour_cases, next_cases, next_within, places_differ, target}

-- the row of one node has a port of this weight that names another
pub record Linked (rows : List NodeRow) (a b weight : ℕ) : Type 0 where
  pub row : NodeRow
  pub port : Port
  pub found : row_of rows a ≡ Some row
  pub names : port_to row b ≡ Some port
  pub weighs : port.weight ≡ weight

module _ (rows : List NodeRow) (net : IsNetwork rows) where
  pub id_row : (p : ℕ) → p < length rows
      → (row : NodeRow) × (slice_get rows p ≡ Some row) × (row.id ≡ id_at rows p)
  id_row p within =
      let (row, at) : (row : NodeRow) × (slice_get rows p ≡ Some row) = item_at rows p within in
      (row, at, sym (ap (λ (o : Option NodeRow). option_map_or (λ (row : NodeRow). row.id) o 0) at))

  -- a node with the identity of that at a place stands there
  pub at_place : (k p : ℕ) (row : NodeRow) → slice_get rows k ≡ Some row → p < length rows
      → row.id ≡ id_at rows p → k ≡ p
  at_place k p row at within named =
      let (other, there, is) : (other : NodeRow) × (slice_get rows p ≡ Some other)
      × (other.id ≡ id_at rows p) = id_row p within in
      one_place rows net k p row other at there (named ∙ sym is)

  pub ids_differ : (p q : ℕ) → p < length rows → q < length rows → p ≢ q → id_at rows p ≢ id_at rows q
  ids_differ p q inside within apart same =
      let (row, at, is) : (row : NodeRow) × (slice_get rows p ≡ Some row) × (row.id ≡ id_at rows p) =
      id_row p inside in
      apart (at_place p q row at within (is ∙ same))

  -- where two nodes are no neighbours, no port of the one names the other
  pub no_edge : (p q : ℕ) → p < length rows → q < length rows → ¬ Contains (beside rows p) q
      → (k m : ℕ) (row : NodeRow) (port : Port) → slice_get rows k ≡ Some row
      → slice_get row.ports m ≡ Some port → row.id ≡ id_at rows p → port.nbr ≢ id_at rows q
  no_edge p q inside within apart k m row port at has named same =
      let there : (other : NodeRow) × (slice_get rows (place_in rows port.nbr) ≡ Some other)
      × (port.nbr ≡ other.id) = target rows net k m row port at has in
      let here : k ≡ p = at_place k p row at inside named in
      let other : place_in rows port.nbr ≡ q =
      at_place (place_in rows port.nbr) q there.0 there.1 within (sym there.2 ∙ same) in
      let in' : Contains (beside rows k) (place_in rows port.nbr) =
      subst (λ (places : List ℕ). Contains places (place_in rows port.nbr))
      (sym (beside_row rows net k row at))
      (Contains-map (λ (port : Port). place_in rows port.nbr) row.ports port
      (Contains-from_place row.ports m port has)) in
      apart (subst (λ (k : ℕ). Contains (beside rows k) q) here
      (subst (Contains (beside rows k)) other in'))

  -- a node and its neighbour name one another, with one weight
  pub linked : (p q : ℕ) → p < length rows → q < length rows → Contains (beside rows p) q
      → Linked rows (id_at rows p) (id_at rows q) (weight_between rows p q)
      × Linked rows (id_at rows q) (id_at rows p) (weight_between rows p q)
  linked p q inside within in' =
      let (row, at, is) : (row : NodeRow) × (slice_get rows p ≡ Some row) × (row.id ≡ id_at rows p) =
      id_row p inside in
      let named : (port : Port) × Contains row.ports port × (place_in rows port.nbr ≡ q) =
      Contains-from_map (λ (port : Port). place_in rows port.nbr) row.ports q
      (subst (λ (places : List ℕ). Contains places q) (beside_row rows net p row at) in') in
      let port : Port = named.0 in
      let has : (m : ℕ) × (slice_get row.ports m ≡ Some port) =
      place_from_Contains row.ports port named.1 in
      let (other, there, same) : (other : NodeRow) × (slice_get rows q ≡ Some other)
      × (other.id ≡ id_at rows q) = id_row q within in
      let end : (other : NodeRow) × (slice_get rows (place_in rows port.nbr) ≡ Some other)
      × (port.nbr ≡ other.id) = target rows net p has.0 row port at has.1 in
      let nbr : port.nbr ≡ id_at rows q =
      end.2 ∙ ap (λ (row : NodeRow). row.id)
      (same_Some end.0 other (sym end.1 ∙ ap (slice_get rows) named.2 ∙ there)) ∙ same in
      let names : port_to row (id_at rows q) ≡ Some port =
      subst (λ (id : ℕ). port_to row id ≡ Some port) nbr
      (port_of_place rows net p row at has.0 port has.1) in
      let weighs : port.weight ≡ weight_between rows p q = sym (rw (at, names) refl) in
      let way : WayBack rows row port = way_back rows net p row at has.0 port has.1 in (
        record {
          row = row;
          port = port;
          found = subst (λ (id : ℕ). row_of rows id ≡ Some row) is (row_of_place rows net p row at);
          names = names;
          weighs = weighs;
        },
        record {
          row = way.other;
          port = way.back;
          found = subst (λ (id : ℕ). row_of rows id ≡ Some way.other) nbr way.named;
          names = subst (λ (id : ℕ). port_to way.other id ≡ Some way.back) is way.returns;
          weighs = sym way.weight ∙ weighs;
        },
      )

module _ (rows : List NodeRow) (net : IsNetwork rows) (labels : List (List Bool)) (order : List ℕ)
    (of : IsRingOrder rows order) (i j : ℕ) (pair : IsPair rows labels order i j) where
  abbrev pub n : ℕ
  n = length order

  pub cycle : IsCycle rows order
  cycle = record {
    within = of.round.within;
    distinct = of.round.distinct;
    long = let a = pair.apart in let b = pair.within in omega arith;
    edges = of.round.edges;
  }

  pub first_within : i < n
  first_within = let a = pair.apart in let b = pair.within in omega arith

  abbrev pub behind : ℕ → ℕ
  behind = next_number n

  pub behind_first : behind i ≡ i + 1
  behind_first = elim (next_cases n i first_within) [
    | inl last ↦ let e = last.0 in let a = pair.apart in let b = pair.within in absurd (omega arith)
    | inr on ↦ on.1
  ]

  -- what a number behind the second edge is
  second_cases : ((j + 1 ≡ n) × (behind j ≡ 0)) ⊎ ((j + 1 < n) × (behind j ≡ j + 1))
  second_cases = next_cases n j pair.within

  pub place_within : (a : ℕ) → a < n → tail_of order a < length rows
  place_within a inside = of.round.within a 0 inside

  pub behind_within : (a : ℕ) → a < n → behind a < n
  behind_within a inside = next_within n a inside

  pub differ : (a b : ℕ) → a < n → b < n → a ≢ b
      → id_at rows (tail_of order a) ≢ id_at rows (tail_of order b)
  differ a b inside within apart =
      ids_differ rows net (tail_of order a) (tail_of order b) (place_within a inside)
      (place_within b within) (places_differ order of.round.distinct a b inside within apart)

  pub ends_apart : AreApart (ends_of rows order i j)
  ends_apart =
      let a = pair.apart in
      let b = pair.within in
      let c = pair.around in
      let d = behind_first in
      record {
        tail_head = differ i (behind i) first_within (behind_within i first_within)
            (λ e. omega arith);
        tails = differ i j first_within pair.within (λ e. omega arith);
        tail_other_head = differ i (behind j) first_within (behind_within j pair.within)
            (λ e. elim second_cases [
              | inl last ↦ let f = last.1 in let g = last.0 in omega arith
              | inr on ↦ let f = on.1 in omega arith
            ]);
        head_other_tail = differ (behind i) j (behind_within i first_within) pair.within
            (λ e. omega arith);
        heads = differ (behind i) (behind j) (behind_within i first_within)
            (behind_within j pair.within)
            (λ e. elim second_cases [
              | inl last ↦ let f = last.1 in omega arith
              | inr on ↦ let f = on.1 in omega arith
            ]);
        other_tail_head = differ j (behind j) pair.within (behind_within j pair.within)
            (λ e. elim second_cases [
              | inl last ↦ let f = last.1 in omega arith
              | inr on ↦ let f = on.1 in omega arith
            ]);
      }

  -- no edge joins the first tail to the second head
  pub first_second : ¬ Contains (beside rows (tail_of order i)) (head_of order j)
  first_second in' =
      let b : Before n i = before n i cycle.long first_within in
      let w = pair.apart in
      let x = pair.within in
      let y = pair.around in
      let d = behind_first in
      elim (neighbour_cases rows net of.ring.two order cycle i (head_of order j) first_within in') [
        | inl back ↦ places_differ order of.round.distinct (behind j) b.number
            (behind_within j pair.within) b.within
            (λ e. elim (next_cases n b.number b.within) [
              | inl last ↦ let f = last.1 in let g = last.0 in let h = b.leads in
                  elim second_cases [
                    | inl end ↦ let u = end.0 in let v = end.1 in omega arith
                    | inr on ↦ let u = on.0 in let v = on.1 in omega arith
                  ]
              | inr more ↦ let f = more.1 in let g = more.0 in let h = b.leads in
                  elim second_cases [
                    | inl end ↦ let u = end.0 in let v = end.1 in omega arith
                    | inr on ↦ let u = on.0 in let v = on.1 in omega arith
                  ]
            ]) back
        | inr on ↦ places_differ order of.round.distinct (behind j) (behind i)
            (behind_within j pair.within) (behind_within i first_within)
            (λ e. elim second_cases [
              | inl last ↦ let f = last.1 in omega arith
              | inr on ↦ let f = on.1 in omega arith
            ]) on
      ]

  -- and none the second tail to the first head
  pub second_first : ¬ Contains (beside rows (tail_of order j)) (head_of order i)
  second_first in' =
      let b : Before n j = before n j cycle.long pair.within in
      let w = pair.apart in
      let x = pair.within in
      let d = behind_first in
      elim (neighbour_cases rows net of.ring.two order cycle j (head_of order i) pair.within in') [
        | inl back ↦ places_differ order of.round.distinct (behind i) b.number
            (behind_within i first_within) b.within
            (λ e. elim (next_cases n b.number b.within) [
              | inl last ↦ let f = last.1 in let g = last.0 in let h = b.leads in omega arith
              | inr more ↦ let f = more.1 in let g = more.0 in let h = b.leads in omega arith
            ]) back
        | inr on ↦ places_differ order of.round.distinct (behind i) (behind j)
            (behind_within i first_within) (behind_within j pair.within)
            (λ e. elim second_cases [
              | inl last ↦ let f = last.1 in omega arith
              | inr on ↦ let f = on.1 in omega arith
            ]) on
      ]
