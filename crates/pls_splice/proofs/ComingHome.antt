-- The way round a ring is the order of its nodes.
use Rattle.std.proofs.Common.{◌≡◌, ◌∙◌, ℕ, zero, suc, ◌+◌, ◌-◌, ◌<◌, ◌≤◌, inl, inr, List, length, get_or, slice_get, Contains, Some, refl, sym, ap, subst, arith}
use Rattle.std.proofs.lemmas.Bool.{cases_order}
use Rattle.pls_configuration.specs.declared.row.NodeRow.{NodeRow}
use Rattle.pls_configuration.specs.Configuration.{IsNetwork}
use Rattle.pls_graph.specs.Places.{beside}
use Rattle.pls_graph.proofs.Finds.{item_at}
use Rattle.pls_graph.proofs.Members.{Contains-from_place, Contains-map}
use Rattle.pls_facts.proofs.Fewer.{length-part}
use Rattle.std.specs.List.{range_with_len}
use Rattle.std.proofs.lemmas.List.FromFn.{get_or-range_with_len, length-range_with_len}
use Rattle.pls_components.specs.Components.{AreJoinedAt}
use Rattle.pls_splice.specs.Ring.{IsOrder, IsRing, head_of, next_number, tail_of}
use Rattle.pls_splice.specs.inner.Round.{places_from, places_round}
use Rattle.pls_splice.proofs.GoingRound.{Differ, at, came, comes_home, first_step, first_two, get_or-places_from, has_all, length-places_from, some, steps}
use Rattle.pls_splice.proofs.Turning.{IsCycle, along_places, closed, next_cases, number_of, tail_in}

module _ (rows : List NodeRow) (net : IsNetwork rows) (ring : IsRing rows) where
  -- a list of nodes that goes round has all nodes
  pub everywhere : (cycle : List ℕ) → IsCycle rows cycle → (x : ℕ) → x < length rows
      → Contains cycle x
  everywhere cycle is x within =
      let first : 0 < length cycle = let long = is.long in omega arith in
      let (one, there) : (one : NodeRow) × (slice_get rows (tail_of cycle 0) ≡ Some one) =
      item_at rows (tail_of cycle 0) (is.within 0 0 first) in
      let (other, here) : (other : NodeRow) × (slice_get rows x ≡ Some other) =
      item_at rows x within in
      let joined : AreJoinedAt rows (tail_of cycle 0) x = record {
        one = one;
        other = other;
        there = there;
        here = here;
        walk = ring.connected one.id other.id
            (Contains-map (λ (row : NodeRow). row.id) rows one
            (Contains-from_place rows (tail_of cycle 0) one there))
            (Contains-map (λ (row : NodeRow). row.id) rows other
            (Contains-from_place rows x other here));
      } in
      along_places rows net (Contains cycle)
      (λ i j inside in' step. closed rows net ring.two cycle is i j in' step)
      (tail_of cycle 0) x joined (tail_in cycle 0 first)

  -- so it is no shorter than the network
  long_cycle : (cycle : List ℕ) → IsCycle rows cycle → length rows ≤ length cycle
  long_cycle cycle is =
      let n = length rows in
      let few = length-part (range_with_len 0 n) cycle
      (λ i j d less inside same.
      let many = length-range_with_len 0 n in
      let one : get_or (range_with_len 0 n) i d ≡ 0 + i =
      get_or-range_with_len 0 n i d (omega arith) in
      let other : get_or (range_with_len 0 n) j d ≡ 0 + j =
      get_or-range_with_len 0 n j d (omega arith) in
      omega (arith, one, other, same))
      (λ x in'. everywhere cycle is x
      (let many = length-range_with_len 0 n in
      let inside = in'.1 in
      let one : get_or (range_with_len 0 n) in'.0 x ≡ 0 + in'.0 =
      get_or-range_with_len 0 n in'.0 x (omega arith) in
      let is = in'.2 in
      omega arith)) in
      let many = length-range_with_len 0 n in
      omega (arith, few, many)

  abbrev place : ℕ → ℕ
  place = at rows net ring

  abbrev way : ℕ → List ℕ
  way count = places_from rows 0 (came rows net ring) count

  way_at : (count k d : ℕ) → k < count → get_or (way count) k d ≡ place k
  way_at count k d less = get_or-places_from rows 0 (came rows net ring) count k d less

  way_long : (count : ℕ) → length (way count) ≡ count
  way_long count = length-places_from rows 0 (came rows net ring) count

  -- the way goes round where it comes home
  way_cycle : (k : ℕ) → Differ rows net ring (suc k) → place (suc k) ≡ place 0 → 2 ≤ k
      → IsCycle rows (way (suc k))
  way_cycle k differ home long =
      let many = way_long (suc k) in
      record {
        within = λ i d inside. subst (λ (x : ℕ). x < length rows)
            (sym (way_at (suc k) i d (omega arith))) (steps rows net ring i).within;
        distinct = λ i j d less inside same. differ i j less (omega arith)
            (sym (way_at (suc k) i d (omega arith)) ∙ same ∙ way_at (suc k) j d (omega arith));
        long = omega arith;
        edges = λ i inside. edge i (omega arith);
      }
    where
      edge : (i : ℕ) → i < suc k
          → Contains (beside rows (tail_of (way (suc k)) i)) (head_of (way (suc k)) i)
      edge i less =
          let head : head_of (way (suc k)) i ≡ place (suc i) =
          ap (λ (n : ℕ). tail_of (way (suc k)) (next_number n i)) (way_long (suc k))
          ∙ elim (next_cases (suc k) i less) [
            | inl last ↦
                let e = last.0 in
                let same : suc k ≡ suc i = omega arith in
                ap (tail_of (way (suc k))) last.1 ∙ way_at (suc k) 0 0 (omega arith) ∙ sym home
                ∙ ap place same
            | inr on ↦
                let b = on.0 in
                let same : i + 1 ≡ suc i = omega arith in
                ap (tail_of (way (suc k))) on.1 ∙ way_at (suc k) (i + 1) 0 (omega arith)
                ∙ ap place same
          ] in
          subst (λ (tail : ℕ). Contains (beside rows tail) (head_of (way (suc k)) i))
          (sym (way_at (suc k) i 0 less))
          (subst (Contains (beside rows (place i))) (sym head) (steps rows net ring i).next)

  -- the first so many places are different
  all_differ : (m : ℕ) → suc m ≤ length rows → Differ rows net ring (suc m)
  all_differ zero few i j less within = absurd (omega arith)
  all_differ (suc m) few i j less within = elim (cases_order j (suc m)) [
    | inl e ↦ λ same.
        let home : (i ≡ 0) × (2 ≤ m) = comes_home rows net ring m i (all_differ m (omega arith))
        (omega arith) (ap place (sym e) ∙ sym same) in
        let again : place (suc m) ≡ place 0 = ap place (sym e) ∙ sym same ∙ ap place home.0 in
        let enough = long_cycle (way (suc m))
        (way_cycle m (all_differ m (omega arith)) again home.1) in
        let many = way_long (suc m) in
        omega (arith, enough, many)
    | inr order ↦ elim order [
      | inl before ↦ all_differ m (omega arith) i j less before
      | inr after ↦ absurd (omega arith)
    ]
  ]

  module _ (k : ℕ) (count : length rows ≡ suc k) where
    differ : Differ rows net ring (suc k)
    differ = all_differ k (omega arith)

    came_home : (place (suc k) ≡ place 0) × (2 ≤ k)
    came_home =
        let many = way_long (suc k) in
        let in' : Contains (way (suc k)) (place (suc k)) =
        has_all (way (suc k))
        (λ i j d less inside same. differ i j less (omega arith)
        (sym (way_at (suc k) i d (omega arith)) ∙ same ∙ way_at (suc k) j d (omega arith)))
        (λ i d inside. subst (λ (x : ℕ). x < length (way (suc k)))
        (sym (way_at (suc k) i d (omega arith)))
        (let w = (steps rows net ring i).within in omega arith))
        (place (suc k)) (let w = (steps rows net ring (suc k)).within in omega arith) in
        let (m, inside, is) : (m : ℕ) × (m < length (way (suc k)))
        × (tail_of (way (suc k)) m ≡ place (suc k)) = number_of (way (suc k)) (place (suc k)) in' in
        let same : place (suc k) ≡ place m = sym is ∙ way_at (suc k) m 0 (omega arith) in
        let home : (m ≡ 0) × (2 ≤ k) = comes_home rows net ring k m differ (omega arith) same in
        (same ∙ ap place home.0, home.1)

    way_order : IsOrder rows (way (suc k))
    way_order =
        let is : IsCycle rows (way (suc k)) = way_cycle k differ came_home.0 came_home.1 in
        record {
          all = way_long (suc k) ∙ sym count;
          within = is.within;
          distinct = is.distinct;
          first = refl;
          turn = ap (λ (places : List ℕ). slice_get places 0) (first_two rows net ring).are
              ∙ ap Some (sym (first_step rows net ring)) ∙ ap Some (sym second);
          edges = is.edges;
        }
      where
        second : head_of (way (suc k)) 0 ≡ place 1
        second =
            let long = came_home.1 in
            ap (λ (n : ℕ). tail_of (way (suc k)) (next_number n 0)) (way_long (suc k))
            ∙ elim (next_cases (suc k) 0 (omega arith)) [
              | inl last ↦ let e = last.0 in absurd (omega arith)
              | inr on ↦ ap (tail_of (way (suc k))) on.1 ∙ way_at (suc k) 1 0 (omega arith)
            ]

  pub ring_long : 3 ≤ length rows
  ring_long =
      let positive = some rows net ring in
      let count : length rows ≡ suc (length rows - 1) = omega arith in
      let two = (came_home (length rows - 1) count).1 in
      omega arith

  pub round_order : IsOrder rows (places_round rows)
  round_order =
      let positive = some rows net ring in
      let count : length rows ≡ suc (length rows - 1) = omega arith in
      subst (λ (count : ℕ). IsOrder rows (way count)) (sym count) (way_order (length rows - 1) count)
