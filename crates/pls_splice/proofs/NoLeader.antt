-- One of the two rings has no leader.
use Rattle.std.proofs.Common.{◌≡◌, ◌≢◌, ◌∙◌, ℕ, zero, suc, ◌≤◌, inl, inr, true, Bool, List, count_by, filter, length, slice_get, Contains, Some, refl, ap, subst, arith}
use Rattle.std.proofs.lemmas.Bool.{cases_eq}
use Rattle.std.proofs.lemmas.List.Sums.{length-filter}
use Rattle.pls_configuration.specs.declared.row.NodeRow.{NodeRow}
use Rattle.pls_configuration.specs.Configuration.{IsNetwork}
use Rattle.pls_graph.proofs.Beside.{one_place}
use Rattle.pls_graph.proofs.Members.{Contains-from_filter, Contains-from_place, place_from_Contains}
use Rattle.pls_facts.specs.Leader.{HasOneLeader, is_leader}
use Rattle.pls_facts.proofs.Lists.{count_by-map, one_passes, some_item}
use Rattle.pls_components.specs.Components.{IsComponent, items_at}
use Rattle.pls_components.proofs.Items.{from-items}
use Rattle.pls_components.proofs.Part.{places_within}
use Rattle.pls_splice.specs.Crossing.{IsPair, cross_row, crossed_rows, ends_of}
use Rattle.pls_splice.specs.Ring.{IsRingOrder}
use Rattle.pls_splice.specs.TwoRings.{IsLeaderlessIn}
use Rattle.pls_splice.proofs.Parted.{inner_component, inner_places, outer_component, outer_places, parted}
use Rattle.pls_splice.proofs.TwoParts.{made_net}

-- where some pass there is one that does
some_passes : {X : Type 0} (p : X → Bool) (xs : List X) → count_by p xs ≢ 0
    → (x : X) × Contains xs x × (p x ≡ true)
some_passes p xs some =
    let many = length-filter p xs in
    let (x, in') = some_item (filter p xs) (by (count_by p xs) (length (filter p xs)) many some) in
    let both = Contains-from_filter p xs x in' in
    (x, both.0, both.1)
  where
    by : (count long : ℕ) → long ≡ count → count ≢ 0 → 1 ≤ long
    by zero long same some = absurd (some refl)
    by (suc count) long same some = omega arith

-- of a list of components that is apart from another
module _ (rows : List NodeRow) (net : IsNetwork rows) where
  -- a row at the places of a component is that of one of the places
  row_in : (places : List ℕ) → IsComponent rows places → (row : NodeRow)
      → Contains (items_at rows places) row
      → (place : ℕ) × Contains places place × (slice_get rows place ≡ Some row)
  row_in places is row in' =
      let (k, at) : (k : ℕ) × (slice_get (items_at rows places) k ≡ Some row) =
      place_from_Contains (items_at rows places) row in' in
      let (place, here, there) : (place : ℕ) × (slice_get places k ≡ Some place)
      × (slice_get rows place ≡ Some row) =
      from-items rows places (places_within rows net places is) k row at in
      (place, Contains-from_place places k place here, there)

  -- of two components one has none of the nodes that pass a test, where only one does
  pub one_without : (p : NodeRow → Bool) → count_by p rows ≡ 1 → (a b : List ℕ) → IsComponent rows a
      → IsComponent rows b → ((x : ℕ) → Contains a x → Contains b x → ⊥)
      → (places : List ℕ) × IsComponent rows places × (count_by p (items_at rows places) ≡ 0)
  one_without p one a b is_a is_b apart = elim (cases_eq (count_by p (items_at rows a)) 0) [
    | inl none ↦ (a, is_a, none)
    | inr some_a ↦ elim (cases_eq (count_by p (items_at rows b)) 0) [
      | inl none ↦ (b, is_b, none)
      | inr some_b ↦ absurd (both some_a some_b)
    ]
  ]
    where
      both : count_by p (items_at rows a) ≢ 0 → count_by p (items_at rows b) ≢ 0 → ⊥
      both some_a some_b =
          let (x, x_in, x_passes) : (x : NodeRow) × Contains (items_at rows a) x × (p x ≡ true) =
          some_passes p (items_at rows a) some_a in
          let (y, y_in, y_passes) : (y : NodeRow) × Contains (items_at rows b) y × (p y ≡ true) =
          some_passes p (items_at rows b) some_b in
          let (k, k_in, k_at) : (k : ℕ) × Contains a k × (slice_get rows k ≡ Some x) =
          row_in a is_a x x_in in
          let (m, m_in, m_at) : (m : ℕ) × Contains b m × (slice_get rows m ≡ Some y) =
          row_in b is_b y y_in in
          let same : x ≡ y = one_passes p rows x y (omega arith) (Contains-from_place rows k x k_at)
          (Contains-from_place rows m y m_at) x_passes y_passes in
          let place : k ≡ m = one_place rows net k m x y k_at m_at
          (ap (λ (row : NodeRow). row.id) same) in
          apart m (subst (Contains a) place k_in) m_in

pub no_leader : (rows : List NodeRow) (net : IsNetwork rows) (labels : List (List Bool))
    (order : List ℕ) (of : IsRingOrder rows order) (i j : ℕ) (pair : IsPair rows labels order i j)
    → HasOneLeader rows → IsLeaderlessIn (crossed_rows rows order i j)
no_leader rows net labels order of i j pair one =
    let made : List NodeRow = crossed_rows rows order i j in
    let leads : NodeRow → Bool = λ (row : NodeRow). is_leader row.state in
    let same : count_by leads made ≡ 1 = count_by-map leads (cross_row (ends_of rows order i j)) rows
    ∙ one in
    let (places, is, none) : (places : List ℕ) × IsComponent made places
    × (count_by leads (items_at made places) ≡ 0) =
    one_without made (made_net rows net labels order of i j pair) leads same
    (outer_places rows net labels order of i j pair) (inner_places rows net labels order of i j pair)
    (outer_component rows net labels order of i j pair)
    (inner_component rows net labels order of i j pair) (parted rows net labels order of i j pair) in
    record { places = places; component = is; none = none }
