-- How many components a network has that is connected, and of one that is not, which is the second.
use Rattle.std.proofs.Common.{◌≡◌, ◌∙◌, ℕ, zero, suc, ◌<◌, ◌≤◌, inl, inr, List, [], ◌∷◌, length, slice_get, Contains, Some, None, option_map, refl, sym, ap, subst, arith}
use Rattle.std.specs.List.{AllPairs}
use Rattle.std.proofs.lemmas.Bool.{cases_order}
use Rattle.std.proofs.lemmas.Option.{get_or_from_slice_get, same_Some, slice_get_within}
use Rattle.pls_configuration.specs.declared.row.NodeRow.{NodeRow}
use Rattle.pls_configuration.specs.Configuration.{IsNetwork, ids_of}
use Rattle.pls_configuration.specs.Walk.{AreJoined, IsConnected, edges_of}
use Rattle.pls_configuration.specs.Rising.{IsRising}
use Rattle.pls_graph.specs.Connected.{IsFirstApart, smallest_id}
use Rattle.pls_graph.proofs.Finds.{item_at}
use Rattle.pls_graph.proofs.Members.{Contains-cons_cases, Contains-first, Contains-from_map, Contains-from_place, Contains-later, Contains-map, place_from_Contains}
use Rattle.pls_graph.proofs.Placed.{ids_rise, smallest_first}
use Rattle.pls_components.specs.Components.{AreComponents, AreJoinedAt, IsComponent, least_id}
use Rattle.pls_components.proofs.Apart.{joined_through, joined_turned, joined_within, least_first, same_component}
use Rattle.pls_components.proofs.Whole.{whole_connected}

-- the first of numbers that rise is at most each other
first_at_most : (numbers : List ℕ) → IsRising numbers → (k x y : ℕ)
    → slice_get numbers 0 ≡ Some x → slice_get numbers k ≡ Some y → x ≤ y
first_at_most numbers rise zero x y first at =
    let same : x ≡ y = same_Some x y (sym first ∙ at) in omega arith
first_at_most numbers rise (suc k) x y first at =
    let less = rise 0 (suc k) 0 (omega arith) (slice_get_within numbers (suc k) y at) in
    let one = get_or_from_slice_get numbers 0 x 0 first in
    let other = get_or_from_slice_get numbers (suc k) y 0 at in
    omega arith

module _ (rows : List NodeRow) where
  -- of components whose smallest identities rise, the first is below those behind it
  below_later : (places : List ℕ) (others : List (List ℕ))
      → AllPairs (λ (places later : List ℕ). least_id rows places < least_id rows later)
      (places ∷ others)
      → (later : List ℕ) → Contains others later → least_id rows places < least_id rows later
  below_later places others rise later in' =
      let less = rise 0 (suc in'.0) later (omega arith) (let i = in'.1 in omega arith) in
      let same = ap (least_id rows) in'.2 in
      omega arith

  module _ (net : IsNetwork rows) where
    -- the node that gives a component its smallest identity
    record IsLeast (places : List ℕ) (head : NodeRow) : Type 0 where
      pub place : ℕ
      pub own : Contains places place
      pub first : slice_get places 0 ≡ Some place
      pub at : slice_get rows place ≡ Some head
      pub is_least : least_id rows places ≡ head.id

    least : (places : List ℕ) → IsComponent rows places → (head : NodeRow) × IsLeast places head
    least places is =
        let (k, there) : (k : ℕ) × (slice_get places k ≡ Some is.node) =
        place_from_Contains places is.node is.own in
        let inside = slice_get_within places k is.node there in
        let (place, first) : (place : ℕ) × (slice_get places 0 ≡ Some place) =
        item_at places 0 (omega arith) in
        let own : Contains places place = Contains-from_place places 0 place first in
        let within : place < length rows =
        joined_within rows is.node place ((is.members place).0 own) in
        let (head, at) : (head : NodeRow) × (slice_get rows place ≡ Some head) =
        item_at rows place within in (
          head,
          record {
            place = place;
            own = own;
            first = first;
            at = at;
            is_least = least_first rows net places is place head first at;
          },
        )

    -- no node has a smaller identity than those at places before it
    rises : (i j : ℕ) (row later : NodeRow) → i ≤ j → slice_get rows i ≡ Some row
        → slice_get rows j ≡ Some later → row.id ≤ later.id
    rises i j row later up at there = elim (cases_order i j) [
      | inl e ↦
          let same : row ≡ later =
          same_Some row later (sym at ∙ ap (slice_get rows) e ∙ there) in
          let ids = ap (λ (row : NodeRow). row.id) same in
          omega arith
      | inr apart ↦ elim apart [
        | inl less ↦ let ids = ids_rise rows net i j row later less at there in omega arith
        | inr more ↦ absurd (omega arith)
      ]
    ]

    -- no node of a component has an identity below its smallest
    least_below : (places : List ℕ) → IsComponent rows places → (place : ℕ) (row : NodeRow)
        → Contains places place → slice_get rows place ≡ Some row → least_id rows places ≤ row.id
    least_below places is place row in' at =
        let (head, lowest) : (head : NodeRow) × IsLeast places head = least places is in
        let (k, there) : (k : ℕ) × (slice_get places k ≡ Some place) =
        place_from_Contains places place in' in
        let up = first_at_most places is.rising k lowest.place place lowest.first there in
        let ids = rises lowest.place place head row up lowest.at at in
        let same = lowest.is_least in
        omega arith

    -- two components with a node in common are not one below the other
    never_both : (a b : List ℕ) → IsComponent rows a → IsComponent rows b → (place : ℕ)
        → Contains a place → Contains b place → least_id rows a < least_id rows b → ⊥
    never_both a b is_a is_b place in_a in_b less =
        let same = ap (least_id rows) (same_component rows net a b is_a is_b place in_a in_b) in
        omega arith

    -- a connected network has no second component
    pub no_second : IsConnected rows → (parts : List (List ℕ)) → AreComponents rows parts
        → slice_get parts 1 ≡ None
    no_second joined [] are = refl
    no_second joined (places ∷ []) are = refl
    no_second joined (one ∷ other ∷ rest) are =
        let is_one : IsComponent rows one = are.each one (Contains-first one (other ∷ rest)) in
        let in_other : Contains (other ∷ rest) other = Contains-first other rest in
        let is_other : IsComponent rows other =
        are.each other (Contains-later one (other ∷ rest) other in_other) in
        let here : AreJoinedAt rows is_one.node is_one.node =
        (is_one.members is_one.node).0 is_one.own in
        let there : AreJoinedAt rows is_other.node is_other.node =
        (is_other.members is_other.node).0 is_other.own in
        let way : AreJoinedAt rows is_one.node is_other.node = record {
          one = here.one;
          other = there.one;
          there = here.there;
          here = there.there;
          walk = joined here.one.id there.one.id (known is_one.node here.one here.there)
              (known is_other.node there.one there.there);
        } in
        absurd (never_both one other is_one is_other is_other.node
        ((is_one.members is_other.node).1 way) is_other.own
        (below_later one (other ∷ rest) are.order other in_other))
      where
        known : (place : ℕ) (row : NodeRow) → slice_get rows place ≡ Some row
            → Contains (ids_of rows) row.id
        known place row at = Contains-map (λ (row : NodeRow). row.id) rows row
            (Contains-from_place rows place row at)

    -- of a network that is not connected, the first node apart is the first of the second component
    module _ (id : ℕ) (apart : IsFirstApart rows id) (one other : List ℕ) (rest : List (List ℕ))
        (are : AreComponents rows (one ∷ other ∷ rest)) where
      is_one : IsComponent rows one
      is_one = are.each one (Contains-first one (other ∷ rest))

      is_other : IsComponent rows other
      is_other = are.each other
          (Contains-later one (other ∷ rest) other (Contains-first other rest))

      zeroth : (row : NodeRow) × (slice_get rows 0 ≡ Some row)
      zeroth = item_at rows 0 (let some = net.limits.some in omega arith)

      smallest_is : smallest_id rows ≡ zeroth.0.id
      smallest_is = smallest_first rows net zeroth.0 zeroth.1

      -- the node of the smallest identity is in the first
      zero_in : Contains one 0
      zero_in =
          let (places, listed, has) : (places : List ℕ) × Contains (one ∷ other ∷ rest) places
          × Contains places 0 = are.all 0 (let some = net.limits.some in omega arith) in
          elim (Contains-cons_cases one (other ∷ rest) places listed) [
            | inl e ↦ subst (λ (places : List ℕ). Contains places 0) (sym e) has
            | inr later ↦
                let (head, lowest) : (head : NodeRow) × IsLeast one head = least one is_one in
                let low = rises 0 lowest.place zeroth.0 head (omega arith) zeroth.1 lowest.at in
                let high = least_below places (are.each places listed) 0 zeroth.0 has zeroth.1 in
                let less = below_later one (other ∷ rest) are.order places later in
                let same = lowest.is_least in
                absurd (omega arith)
          ]

      -- a walk joins it to a node exactly where that one is there too
      in_first : (place : ℕ) (row : NodeRow) → slice_get rows place ≡ Some row
          → AreJoined (edges_of rows) (smallest_id rows) row.id → Contains one place
      in_first place row at walk =
          let way : AreJoinedAt rows 0 place = record {
            one = zeroth.0;
            other = row;
            there = zeroth.1;
            here = at;
            walk = subst (λ (from : ℕ). AreJoined (edges_of rows) from row.id) smallest_is walk;
          } in
          (is_one.members place).1 (joined_through rows is_one.node 0 place
          ((is_one.members 0).0 zero_in) way)

      joined_first : (place : ℕ) (row : NodeRow) → slice_get rows place ≡ Some row
          → Contains one place → AreJoined (edges_of rows) (smallest_id rows) row.id
      joined_first place row at in' =
          let way : AreJoinedAt rows 0 place =
          joined_through rows 0 is_one.node place
          (joined_turned rows is_one.node 0 ((is_one.members 0).0 zero_in))
          ((is_one.members place).0 in') in
          let from : way.one.id ≡ smallest_id rows =
          ap (λ (row : NodeRow). row.id) (same_Some way.one zeroth.0 (sym way.there ∙ zeroth.1))
          ∙ sym smallest_is in
          let to : way.other.id ≡ row.id =
          ap (λ (row : NodeRow). row.id) (same_Some way.other row (sym way.here ∙ at)) in
          subst (AreJoined (edges_of rows) (smallest_id rows)) to
          (subst (λ (from : ℕ). AreJoined (edges_of rows) from way.other.id) from way.walk)

      other_least : least_id rows other ≡ id
      other_least =
          let (head, lowest) : (head : NodeRow) × IsLeast other head = least other is_other in
          let same = lowest.is_least in
          let less = below_later one (other ∷ rest) are.order other (Contains-first other rest) in
          let (row, listed, is) : (row : NodeRow) × Contains rows row × (row.id ≡ id) =
          Contains-from_map (λ (row : NodeRow). row.id) rows id apart.node in
          let (place, at) : (place : ℕ) × (slice_get rows place ≡ Some row) =
          place_from_Contains rows row listed in
          let (places, among, has) : (places : List ℕ) × Contains (one ∷ other ∷ rest) places
          × Contains places place = are.all place (slice_get_within rows place row at) in
          let low = least_below places (are.each places among) place row has at in
          elim (cases_order id (least_id rows other)) [
            | inl e ↦ sym e
            | inr differ ↦ elim differ [
              | inl before ↦ elim (Contains-cons_cases one (other ∷ rest) places among) [
                | inl e ↦ absurd (apart.apart
                    (subst (AreJoined (edges_of rows) (smallest_id rows)) is (joined_first place row at
                    (subst (λ (places : List ℕ). Contains places place) (sym e) has))))
                | inr later ↦ elim (Contains-cons_cases other rest places later) [
                  | inl e ↦ let least_of = ap (least_id rows) e in absurd (omega arith)
                  | inr behind ↦
                      let up = below_later other rest (later_rise one (other ∷ rest) are.order)
                      places behind in
                      absurd (omega arith)
                ]
              ]
              | inr behind ↦
                  let walk : AreJoined (edges_of rows) (smallest_id rows) head.id =
                  apart.first head.id (Contains-map (λ (row : NodeRow). row.id) rows head
                  (Contains-from_place rows lowest.place head lowest.at)) (omega arith) in
                  absurd (never_both one other is_one is_other lowest.place
                  (in_first lowest.place head lowest.at walk) lowest.own less)
            ]
          ]
        where
          later_rise : (places : List ℕ) (others : List (List ℕ))
              → AllPairs (λ (places later : List ℕ). least_id rows places < least_id rows later)
              (places ∷ others)
              → AllPairs (λ (places later : List ℕ). least_id rows places < least_id rows later)
              others
          later_rise places others rise = λ i j d less inside.
              rise (suc i) (suc j) d (omega arith) (omega arith)

    pub second_least : (id : ℕ) → IsFirstApart rows id → (parts : List (List ℕ))
        → AreComponents rows parts → option_map (least_id rows) (slice_get parts 1) ≡ Some id
    second_least id apart [] are =
        let none = (are.all 0 (let some = net.limits.some in omega arith)).1.1 in
        absurd (omega arith)
    second_least id apart (places ∷ []) are =
        let some = net.limits.some in
        let (row, at) : (row : NodeRow) × (slice_get rows 0 ≡ Some row) =
        item_at rows 0 (omega arith) in
        let first : Contains (ids_of rows) (smallest_id rows) =
        subst (Contains (ids_of rows)) (sym (smallest_first rows net row at))
        (Contains-map (λ (row : NodeRow). row.id) rows row (Contains-from_place rows 0 row at)) in
        absurd (apart.apart (whole_connected rows net (places ∷ []) are places refl
        (smallest_id rows) id first apart.node))
    second_least id apart (one ∷ other ∷ rest) are =
        ap Some (other_least id apart one other rest are)
