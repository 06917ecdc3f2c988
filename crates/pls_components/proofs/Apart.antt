-- Nodes that walks join, by their places; a node is in one component, and a network has one list of
-- components.
use Rattle.std.proofs.Common.{◌≡◌, ◌∙◌, ℕ, suc, ◌<◌, ◌⊎◌, inl, inr, List, [], ◌∷◌, length, get_or, slice_get, Contains, Some, refl, sym, ap, subst, arith}
use Rattle.std.specs.List.{AllPairs}
use Rattle.std.proofs.lemmas.List.Elements.{All-contains}
use Rattle.std.proofs.lemmas.Option.{same_Some, slice_get_within}
use Rattle.pls_configuration.specs.declared.row.NodeRow.{NodeRow}
use Rattle.pls_configuration.specs.Configuration.{IsNetwork}
use Rattle.pls_configuration.specs.Walk.{Adjacent, AreJoined, edges_of}
use Rattle.pls_graph.specs.Places.{beside}
use Rattle.pls_graph.proofs.Beside.{Adjacent-beside, beside-Adjacent, beside_within, one_place}
use Rattle.pls_graph.proofs.Finds.{item_at}
use Rattle.pls_graph.proofs.Joined.{Adjacent-turned, along, AreJoined-adjacent, AreJoined-through, AreJoined-turned}
use Rattle.pls_graph.proofs.Members.{Contains-cons_cases, Contains-first, Contains-later}
use Rattle.pls_graph.proofs.Placed.{smallest_first}
use Rattle.pls_components.specs.Components.{AreComponents, AreJoinedAt, IsComponent, items_at, least_id}
use Rattle.pls_components.proofs.Items.{items-at}
use Rattle.pls_components.proofs.Part.{part_network, places_within}

module _ (rows : List NodeRow) where
  pub joined_turned : (i j : ℕ) → AreJoinedAt rows i j → AreJoinedAt rows j i
  joined_turned i j there = record {
    one = there.other;
    other = there.one;
    there = there.here;
    here = there.there;
    walk = AreJoined-turned (edges_of rows) there.one.id there.other.id there.walk;
  }

  pub joined_through : (i j k : ℕ) → AreJoinedAt rows i j → AreJoinedAt rows j k → AreJoinedAt rows i k
  joined_through i j k there on =
      let same : on.one ≡ there.other = same_Some on.one there.other (sym on.there ∙ there.here) in
      record {
        one = there.one;
        other = on.other;
        there = there.there;
        here = on.here;
        walk = AreJoined-through (edges_of rows) there.one.id there.other.id on.other.id there.walk
            (subst (λ (one : NodeRow). AreJoined (edges_of rows) one.id on.other.id) same on.walk);
      }

  pub joined_itself : (i : ℕ) → i < length rows → AreJoinedAt rows i i
  joined_itself i within =
      let (row, at) : (row : NodeRow) × (slice_get rows i ≡ Some row) = item_at rows i within in
      record { one = row; other = row; there = at; here = at; walk = ([], refl) }

  pub joined_within : (i j : ℕ) → AreJoinedAt rows i j → j < length rows
  joined_within i j there = slice_get_within rows j there.other there.here

  module _ (net : IsNetwork rows) where
    -- a walk of one edge joins a node to its neighbour
    pub joined_beside : (i j : ℕ) → i < length rows → Contains (beside rows i) j → AreJoinedAt rows i j
    joined_beside i j within in' =
        let (row, at) : (row : NodeRow) × (slice_get rows i ≡ Some row) = item_at rows i within in
        let inside : j < length rows =
        All-contains (λ (k : ℕ). k < length rows) (beside rows i) j (beside_within rows net i within) in'
        in
        let (other, there) : (other : NodeRow) × (slice_get rows j ≡ Some other) =
        item_at rows j inside in
        record {
          one = row;
          other = other;
          there = at;
          here = there;
          walk = AreJoined-adjacent (edges_of rows) row.id other.id
              (Adjacent-beside rows net i row at j other there in');
        }

    -- of two neighbours each has the other beside it
    pub beside_turned : (i j : ℕ) → i < length rows → Contains (beside rows i) j
        → Contains (beside rows j) i
    beside_turned i j within in' =
        let (row, at) : (row : NodeRow) × (slice_get rows i ≡ Some row) = item_at rows i within in
        let inside : j < length rows =
        All-contains (λ (k : ℕ). k < length rows) (beside rows i) j (beside_within rows net i within) in'
        in
        let (other, there) : (other : NodeRow) × (slice_get rows j ≡ Some other) =
        item_at rows j inside in
        let step : Adjacent (edges_of rows) other.id row.id =
        Adjacent-turned (edges_of rows) row.id other.id
        (Adjacent-beside rows net i row at j other there in') in
        let (k, one, here, is_row, back) : (k : ℕ) × (one : NodeRow) × (slice_get rows k ≡ Some one)
        × (one.id ≡ row.id) × Contains (beside rows j) k =
        beside-Adjacent rows net j other there row.id step in
        subst (Contains (beside rows j)) (one_place rows net k i one row here at is_row) back

    -- what passes from each node to its neighbours passes along walks
    pub along_places : (P : ℕ → Type 0)
        → ((i j : ℕ) → i < length rows → Contains (beside rows i) j → P i → P j) → (i j : ℕ)
        → AreJoinedAt rows i j → P i → P j
    along_places P passes i j there here =
        let (k, row, at, is_last, has) : At there.other.id =
        along (edges_of rows) At step there.one.id there.other.id there.walk
        (i, there.one, there.there, refl, here) in
        subst P (one_place rows net k j row there.other at there.here is_last) has
      where
        At : ℕ → Type 0
        At id = (k : ℕ) × (row : NodeRow) × (slice_get rows k ≡ Some row) × (row.id ≡ id) × P k

        step : (u v : ℕ) → At u → Adjacent (edges_of rows) u v → At v
        step u v (k, row, at, is_u, has) adjacent =
            let (next, other, there, is_v, in') : (next : ℕ) × (other : NodeRow)
            × (slice_get rows next ≡ Some other) × (other.id ≡ v) × Contains (beside rows k) next =
            beside-Adjacent rows net k row at v
            (subst (λ (u : ℕ). Adjacent (edges_of rows) u v) (sym is_u) adjacent) in
            (next, other, there, is_v, passes k next (slice_get_within rows k row at) in' has)

-- two lists that rise by a key and contain the same items are one list
module _ {X : Type 0} (key : X → ℕ) where
  abbrev Rise : List X → Type 0
  Rise xs = AllPairs (λ x y. key x < key y) xs

  first_below : (x : X) (xs : List X) → Rise (x ∷ xs) → (y : X) → Contains xs y → key x < key y
  first_below x xs rise y in' =
      let less : key x < key (get_or xs in'.0 y) =
      rise 0 (suc in'.0) y (omega arith) (let i = in'.1 in omega arith) in
      let same : key (get_or xs in'.0 y) ≡ key y = ap key in'.2 in
      omega arith

  others_rise : (x : X) (xs : List X) → Rise (x ∷ xs) → Rise xs
  others_rise x xs rise = λ i j d less inside.
      rise (suc i) (suc j) d (omega arith) (omega arith)

  pub same_rising : (xs ys : List X) → Rise xs → Rise ys
      → ((x : X) → Contains xs x → Contains ys x) → ((y : X) → Contains ys y → Contains xs y)
      → xs ≡ ys
  same_rising [] [] one other to from = refl
  same_rising [] (y ∷ ys) one other to from =
      absurd (let in' = (from y (Contains-first y ys)).1 in omega arith)
  same_rising (x ∷ xs) [] one other to from =
      absurd (let in' = (to x (Contains-first x xs)).1 in omega arith)
  same_rising (x ∷ xs) (y ∷ ys) one other to from =
      let same : x ≡ y = first (Contains-cons_cases y ys x (to x (Contains-first x xs)))
      (Contains-cons_cases x xs y (from y (Contains-first y ys))) in
      let rest : xs ≡ ys = same_rising xs ys (others_rise x xs one) (others_rise y ys other)
      (λ z in'. past y ys z (to z (Contains-later x xs z in'))
      (λ e. let less = first_below x xs one z in' in let k = ap key (e ∙ sym same) in omega arith))
      (λ z in'. past x xs z (from z (Contains-later y ys z in'))
      (λ e. let less = first_below y ys other z in' in let k = ap key (e ∙ same) in omega arith)) in
      cc
    where
      first : (y ≡ x) ⊎ Contains ys x → (x ≡ y) ⊎ Contains xs y → x ≡ y
      first (inl e) b = sym e
      first (inr a) (inl e) = e
      first (inr a) (inr b) =
          let up = first_below y ys other x a in
          let down = first_below x xs one y b in absurd (omega arith)

      past : (w : X) (ws : List X) (z : X) → Contains (w ∷ ws) z → (z ≡ w → ⊥) → Contains ws z
      past w ws z in' apart = elim (Contains-cons_cases w ws z in') [
        | inl e ↦ absurd (apart (sym e))
        | inr later ↦ later
      ]

module _ (rows : List NodeRow) (net : IsNetwork rows) where
  -- two components with a node in common are one
  pub same_component : (a b : List ℕ) → IsComponent rows a → IsComponent rows b → (place : ℕ)
      → Contains a place → Contains b place → a ≡ b
  same_component a b is_a is_b place in_a in_b =
      same_rising (λ (n : ℕ). n) a b is_a.rising is_b.rising
      (λ other in'. other_in a b is_a is_b in_a in_b other in')
      (λ other in'. other_in b a is_b is_a in_b in_a other in')
    where
      other_in : (a b : List ℕ) → IsComponent rows a → IsComponent rows b → Contains a place
          → Contains b place → (other : ℕ) → Contains a other → Contains b other
      other_in a b is_a is_b in_a in_b other in' =
          (is_b.members other).1 (joined_through rows is_b.node place other
          ((is_b.members place).0 in_b)
          (joined_through rows place is_a.node other
          (joined_turned rows is_a.node place ((is_a.members place).0 in_a))
          ((is_a.members other).0 in')))

  -- the smallest identity of a component is that of its first node
  pub least_first : (places : List ℕ) → IsComponent rows places → (place : ℕ) (row : NodeRow)
      → slice_get places 0 ≡ Some place → slice_get rows place ≡ Some row
      → least_id rows places ≡ row.id
  least_first places is place row first at =
      smallest_first (items_at rows places) (part_network rows net places is) row
      (items-at rows places (places_within rows net places is) 0 place first ∙ at)

  module _ (parts : List (List ℕ)) (are : AreComponents rows parts) where
    -- each component is listed
    pub component_listed : (places : List ℕ) → IsComponent rows places → Contains parts places
    component_listed places is =
        let own : AreJoinedAt rows is.node is.node = (is.members is.node).0 is.own in
        let (listed, in', has) : (listed : List ℕ) × Contains parts listed × Contains listed is.node =
        are.all is.node (joined_within rows is.node is.node own) in
        subst (Contains parts) (same_component listed places (are.each listed in') is is.node has is.own)
        in'

  -- a network has one list of components
  pub one_list : (parts others : List (List ℕ)) → AreComponents rows parts
      → AreComponents rows others → parts ≡ others
  one_list parts others one other =
      same_rising (least_id rows) parts others one.order other.order
      (λ places in'. component_listed others other places (one.each places in'))
      (λ places in'. component_listed parts one places (other.each places in'))
