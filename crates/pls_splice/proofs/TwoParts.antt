-- Two edges that are crossed leave two lists of nodes that go round.
use Rattle.std.proofs.Common.{◌≡◌, ◌≢◌, ◌∙◌, ℕ, ◌<◌, ◌≤◌, inl, inr, true, false, Bool, ◌==◌, ◌&&◌, if◌then◌else◌, List, map, length, get_or, slice_get, All, Contains, Some, option_map, refl, sym, ap, subst, arith}
use Rattle.std.specs.List.{range_with_len}
use Rattle.std.proofs.lemmas.Bool.{eq-eqb, eqb-true, ne_eqb}
use Rattle.std.proofs.lemmas.List.{get_or-map, length-map}
use Rattle.std.proofs.lemmas.List.Elements.{All-map}
use Rattle.std.proofs.lemmas.List.FromFn.{length-range_with_len}
use Rattle.std.proofs.lemmas.Option.{slice_get-map}
use Rattle.pls_configuration.specs.declared.row.Port.{Port}
use Rattle.pls_configuration.specs.declared.row.NodeRow.{NodeRow}
use Rattle.pls_configuration.specs.Configuration.{IsNetwork}
use Rattle.pls_graph.specs.Places.{beside, place_in}
use Rattle.pls_graph.proofs.Beside.{beside_row}
use Rattle.pls_graph.proofs.Finds.{found_place}
use Rattle.pls_graph.proofs.Members.{Contains-from_place, Contains-map}
use Rattle.pls_graph.proofs.Placed.{row_place}
use Rattle.pls_graph_edits.proofs.Changing.{place_in_changed}
use Rattle.pls_facts.proofs.NamedPlaces.{place_named}
use Rattle.pls_splice.specs.Crossing.{IsPair, cross_port, cross_row, crossed_rows, ends_of, id_at, named_after, weight_between}
use Rattle.pls_splice.specs.declared.crossing.Ends.{Ends}
use Rattle.pls_splice.specs.Ring.{IsRingOrder, head_of, next_number, tail_of}
use Rattle.pls_splice.proofs.CrossedRows.{crossed_network}
use Rattle.pls_splice.proofs.EdgeEnds.{Linked, at_place, behind_first, differ, ends_apart, first_within, id_row, linked, place_within}
use Rattle.pls_splice.proofs.OneRing.{range_at}
use Rattle.pls_splice.proofs.Swapping.{AreApart}
use Rattle.pls_splice.proofs.Turning.{IsCycle, next_cases, next_within, places_differ}

-- a port that is none of the four keeps its name
named-other : (ends : Ends) (own x : ℕ) → own ≢ ends.tail → own ≢ ends.other_tail
    → (own ≡ ends.head → x ≢ ends.tail) → (own ≡ ends.other_head → x ≢ ends.other_tail)
    → named_after ends own x ≡ x
named-other ends own x a b c d = rw (ne_eqb own ends.tail a, ne_eqb own ends.other_tail b)
    (third (own == ends.head) refl)
  where
    fourth : (t : Bool) → (own == ends.other_head) ≡ t
        → (if (t && x == ends.other_tail) then ends.tail else x) ≡ x
    fourth true e =
        ap (λ (u : Bool). if u then ends.tail else x)
        (ne_eqb x ends.other_tail (d (eqb-true own ends.other_head e)))
    fourth false e = refl

    third : (t : Bool) → (own == ends.head) ≡ t
        → (if (t && x == ends.tail) then ends.other_tail
        else (if (own == ends.other_head && x == ends.other_tail) then ends.tail else x)) ≡ x
    third true e =
        ap (λ (u : Bool). if u then ends.other_tail
        else (if (own == ends.other_head && x == ends.other_tail) then ends.tail else x))
        (ne_eqb x ends.tail (c (eqb-true own ends.head e)))
        ∙ fourth (own == ends.other_head) refl
    third false e = fourth (own == ends.other_head) refl

module _ (rows : List NodeRow) (net : IsNetwork rows) (labels : List (List Bool)) (order : List ℕ)
    (of : IsRingOrder rows order) (i j : ℕ) (pair : IsPair rows labels order i j) where
  abbrev n : ℕ
  n = length order

  abbrev ends : Ends
  ends = ends_of rows order i j

  abbrev pub made : List NodeRow
  made = crossed_rows rows order i j

  pub made_net : IsNetwork made
  made_net = crossed_network rows net labels order of i j pair

  pub made_long : length made ≡ length rows
  made_long = length-map rows (cross_row ends)

  pub made_two : All (λ (row : NodeRow). length row.ports ≡ 2) made
  made_two = All-map (λ (row : NodeRow). length row.ports ≡ 2) (cross_row ends) rows
      (λ k d inside. length-map (get_or rows k d).ports (cross_port ends (get_or rows k d).id)
      ∙ of.ring.two k d inside)

  apart : AreApart ends
  apart = ends_apart rows net labels order of i j pair

  i_in : i < n
  i_in = first_within rows net labels order of i j pair

  tail_in_rows : (a : ℕ) → a < n → tail_of order a < length rows
  tail_in_rows = place_within rows net labels order of i j pair

  -- an edge leads to the node whose identity is the new name
  edge_to : (p q r : ℕ) → p < length rows → q < length rows → r < length rows
      → Contains (beside rows p) q → named_after ends (id_at rows p) (id_at rows q) ≡ id_at rows r
      → Contains (beside made p) r
  edge_to p q r p_in q_in r_in in' named =
      let link : Linked rows (id_at rows p) (id_at rows q) (weight_between rows p q) =
      (linked rows net p q p_in q_in in').0 in
      let here : (k : ℕ) × (slice_get rows k ≡ Some link.row) × (id_at rows p ≡ link.row.id) =
      row_place rows net (id_at rows p) link.row link.found in
      let same : here.0 ≡ p = at_place rows net here.0 p link.row here.1 p_in (sym here.2) in
      let has : (m : ℕ) × (slice_get link.row.ports m ≡ Some link.port)
      × ((id_at rows q == link.port.nbr) ≡ true) =
      found_place (λ (port : Port). id_at rows q == port.nbr) link.row.ports link.port link.names in
      let at : slice_get made here.0 ≡ Some (cross_row ends link.row) =
      slice_get-map (cross_row ends) rows here.0 ∙ ap (option_map (cross_row ends)) here.1 in
      let port : Contains (cross_row ends link.row).ports (cross_port ends link.row.id link.port) =
      Contains-map (cross_port ends link.row.id) link.row.ports link.port
      (Contains-from_place link.row.ports has.0 link.port has.1) in
      let in_made : Contains (beside made here.0)
      (place_in made (named_after ends link.row.id link.port.nbr)) =
      subst (λ (places : List ℕ). Contains places
      (place_in made (named_after ends link.row.id link.port.nbr)))
      (sym (beside_row made made_net here.0 (cross_row ends link.row) at))
      (Contains-map (λ (port : Port). place_in made port.nbr) (cross_row ends link.row).ports
      (cross_port ends link.row.id link.port) port) in
      let (row, there, is) : (row : NodeRow) × (slice_get rows r ≡ Some row) × (row.id ≡ id_at rows r) =
      id_row rows net r r_in in
      let place : place_in made (named_after ends link.row.id link.port.nbr) ≡ r =
      place_in_changed (cross_row ends) (λ row. refl) rows
      (named_after ends link.row.id link.port.nbr)
      ∙ ap (place_in rows) (ap (λ (own : ℕ). named_after ends own link.port.nbr) (sym here.2)
      ∙ ap (named_after ends (id_at rows p)) (sym (eqb-true (id_at rows q) link.port.nbr has.2))
      ∙ named ∙ sym is)
      ∙ place_named rows net r row there in
      subst (λ (p : ℕ). Contains (beside made p) r) same
      (subst (Contains (beside made here.0)) place in_made)

  -- an edge that is not crossed is there as before
  pub old_edge : (a : ℕ) → a < n → a ≢ i → a ≢ j
      → Contains (beside made (tail_of order a)) (head_of order a)
  old_edge a inside not_i not_j =
      let behind_in = next_within n a inside in
      let c = pair.apart in
      let d = pair.within in
      let e = pair.around in
      let b = behind_first rows net labels order of i j pair in
      edge_to (tail_of order a) (head_of order a) (head_of order a) (tail_in_rows a inside)
      (tail_in_rows (next_number n a) behind_in) (tail_in_rows (next_number n a) behind_in)
      (of.round.edges a inside)
      (named-other ends (id_at rows (tail_of order a)) (id_at rows (head_of order a))
      (differ rows net labels order of i j pair a i inside i_in not_i)
      (differ rows net labels order of i j pair a j inside pair.within not_j)
      (λ is. differ rows net labels order of i j pair (next_number n a) i behind_in i_in
      (λ back. differ rows net labels order of i j pair a (next_number n i) inside
      (next_within n i i_in)
      (λ same. elim (next_cases n a inside) [
        | inl last ↦ let f = last.0 in let g = last.1 in omega arith
        | inr on ↦ let f = on.1 in omega arith
      ]) is))
      (λ is. differ rows net labels order of i j pair (next_number n a) j behind_in pair.within
      (λ back. differ rows net labels order of i j pair a (next_number n j) inside
      (next_within n j pair.within)
      (λ same. elim (next_cases n a inside) [
        | inl last ↦ let f = last.0 in let g = last.1 in omega arith
        | inr on ↦ let f = on.1 in elim (next_cases n j pair.within) [
          | inl end ↦ let g = end.0 in let h = end.1 in omega arith
          | inr more ↦ let h = more.1 in omega arith
        ]
      ]) is)))

  -- each tail leads to the other edge's head
  pub first_edge : Contains (beside made (tail_of order i)) (head_of order j)
  first_edge = edge_to (tail_of order i) (head_of order i) (head_of order j) (tail_in_rows i i_in)
      (tail_in_rows (next_number n i) (next_within n i i_in))
      (tail_in_rows (next_number n j) (next_within n j pair.within))
      (of.round.edges i i_in)
      (rw (eq-eqb ends.tail ends.tail refl, eq-eqb ends.head ends.head refl) refl)

  pub second_edge : Contains (beside made (tail_of order j)) (head_of order i)
  second_edge = edge_to (tail_of order j) (head_of order j) (head_of order i)
      (tail_in_rows j pair.within) (tail_in_rows (next_number n j) (next_within n j pair.within))
      (tail_in_rows (next_number n i) (next_within n i i_in))
      (of.round.edges j pair.within)
      (rw (
        ne_eqb ends.other_tail ends.tail (λ e. apart.tails (sym e)),
        eq-eqb ends.other_tail ends.other_tail refl,
        eq-eqb ends.other_head ends.other_head refl,
      ) refl)

  -- the nodes with some numbers, where each has an edge to the next
  abbrev pub nodes_of : ℕ → (ℕ → ℕ) → List ℕ
  nodes_of m number = map (λ k. tail_of order (number k)) (range_with_len 0 m)

  pub node_at : (m : ℕ) (number : ℕ → ℕ) (k d : ℕ) → k < m
      → get_or (nodes_of m number) k d ≡ tail_of order (number k)
  node_at m number k d less =
      get_or-map (λ k. tail_of order (number k)) (range_with_len 0 m) k 0 d
      (let many = length-range_with_len 0 m in omega arith)
      ∙ ap (λ (k : ℕ). tail_of order (number k)) (range_at m k 0 less)

  pub length-nodes : (m : ℕ) (number : ℕ → ℕ) → length (nodes_of m number) ≡ m
  length-nodes m number =
      length-map (range_with_len 0 m) (λ k. tail_of order (number k)) ∙ length-range_with_len 0 m

  module _ (m : ℕ) (number : ℕ → ℕ) (long : 3 ≤ m) (below : (k : ℕ) → k < m → number k < n)
      (one : (k l : ℕ) → k < l → l < m → number k ≢ number l)
      (edge : (k : ℕ) → k < m
      → Contains (beside made (tail_of order (number k))) (tail_of order (number (next_number m k)))) where
    pub goes_round : IsCycle made (nodes_of m number)
    goes_round =
        let many = length-nodes m number in
        record {
          within = λ k d inside. subst (λ (x : ℕ). x < length made)
              (sym (node_at m number k d (omega arith)))
              (let w = tail_in_rows (number k) (below k (omega arith)) in
              let l = made_long in omega arith);
          distinct = λ k l d less inside same.
              places_differ order of.round.distinct (number k) (number l) (below k (omega arith))
              (below l (omega arith)) (one k l less (omega arith))
              (sym (node_at m number k d (omega arith)) ∙ same
              ∙ node_at m number l d (omega arith));
          long = omega arith;
          edges = λ k inside. leads k (omega arith);
        }
      where
        leads : (k : ℕ) → k < m → Contains (beside made (tail_of (nodes_of m number) k))
            (head_of (nodes_of m number) k)
        leads k less =
            let head : head_of (nodes_of m number) k ≡ tail_of order (number (next_number m k)) =
            ap (λ (count : ℕ). tail_of (nodes_of m number) (next_number count k))
            (length-nodes m number)
            ∙ node_at m number (next_number m k) 0 (next_within m k less) in
            subst (λ (tail : ℕ). Contains (beside made tail) (head_of (nodes_of m number) k))
            (sym (node_at m number k 0 less))
            (subst (Contains (beside made (tail_of order (number k)))) (sym head) (edge k less))
