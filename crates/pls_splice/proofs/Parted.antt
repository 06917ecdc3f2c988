-- A ring in which two edges are crossed is two rings.
use Rattle.std.proofs.Common.{◌≡◌, ◌∙◌, ℕ, zero, suc, ◌-◌, ◌<◌, inl, inr, Bool, List, [], ◌∷◌, length, slice_get, AllPairs, All, Contains, Some, sym, ap, subst, arith}
use Rattle.std.proofs.lemmas.Bool.{cases_order}
use Rattle.pls_configuration.specs.declared.row.NodeRow.{NodeRow}
use Rattle.pls_configuration.specs.Configuration.{IsNetwork}
use Rattle.pls_configuration.specs.Rising.{IsRising}
use Rattle.pls_graph.proofs.Finds.{item_at}
use Rattle.pls_graph.proofs.Members.{Contains-cons_cases, Contains-first, Contains-from_place, Contains-later}
use Rattle.pls_graph.proofs.Placed.{ids_rise}
use Rattle.pls_components.specs.Components.{AreComponents, IsComponent, least_id}
use Rattle.pls_components.proofs.Apart.{joined_within, least_first}
use Rattle.pls_splice.specs.Crossing.{IsPair, crossed_rows}
use Rattle.pls_splice.specs.Ring.{IsRingOrder}
use Rattle.pls_splice.specs.TwoRings.{AreTwoRings}
use Rattle.pls_splice.proofs.Halves as halves
use Rattle.pls_splice.proofs.OneRing.{component, from_sorted, in_sorted, ring_alone, size, sorted}
use Rattle.pls_splice.proofs.TwoParts.{made_net, made_two}
use Rattle.pls_splice.proofs.Turning.{IsCycle}

module _ (rows : List NodeRow) (net : IsNetwork rows) (labels : List (List Bool)) (order : List ℕ)
    (of : IsRingOrder rows order) (i j : ℕ) (pair : IsPair rows labels order i j) where
  abbrev outer : List ℕ
  outer = halves.outer rows net labels order of i j pair

  abbrev inner : List ℕ
  inner = halves.inner rows net labels order of i j pair

  outer_round : IsCycle (crossed_rows rows order i j) outer
  outer_round = halves.outer_round rows net labels order of i j pair

  inner_round : IsCycle (crossed_rows rows order i j) inner
  inner_round = halves.inner_round rows net labels order of i j pair

  abbrev net' : IsNetwork (crossed_rows rows order i j)
  net' = made_net rows net labels order of i j pair

  abbrev two' : All (λ (row : NodeRow). length row.ports ≡ 2) (crossed_rows rows order i j)
  two' = made_two rows net labels order of i j pair

  abbrev pub outer_places : List ℕ
  outer_places = sorted (length (crossed_rows rows order i j)) outer

  abbrev pub inner_places : List ℕ
  inner_places = sorted (length (crossed_rows rows order i j)) inner

  pub outer_component : IsComponent (crossed_rows rows order i j) outer_places
  outer_component = component (crossed_rows rows order i j) net' two' outer outer_round

  pub inner_component : IsComponent (crossed_rows rows order i j) inner_places
  inner_component = component (crossed_rows rows order i j) net' two' inner inner_round

  pub parted : (x : ℕ) → Contains outer_places x → Contains inner_places x → ⊥
  parted x in_outer in_inner = halves.not_both rows net labels order of i j pair x
      (from_sorted (length (crossed_rows rows order i j)) outer outer_round.within x in_outer)
      (from_sorted (length (crossed_rows rows order i j)) inner inner_round.within x in_inner)

  -- the node of the smallest identity is not between the edges
  zero_in : Contains outer_places 0
  zero_in = in_sorted (length (crossed_rows rows order i j)) outer outer_round.within 0
      (halves.first_in_outer rows net labels order of i j pair)

  first_zero : (numbers : List ℕ) → IsRising numbers → Contains numbers 0
      → slice_get numbers 0 ≡ Some 0
  first_zero [] rise in' = let no = in'.1 in absurd (omega arith)
  first_zero (x ∷ numbers) rise (zero, inside, is) = ap Some is
  first_zero (x ∷ numbers) rise (suc k, inside, is) =
      let less = rise 0 (suc k) 0 (omega arith) inside in absurd (omega arith)

  least_rise : least_id (crossed_rows rows order i j) outer_places
      < least_id (crossed_rows rows order i j) inner_places
  least_rise =
      let many : length inner_places ≡ length inner =
      size (crossed_rows rows order i j) net' two' inner inner_round in
      let long = inner_round.long in
      let (q, first) : (q : ℕ) × (slice_get inner_places 0 ≡ Some q) =
      item_at inner_places 0 (omega arith) in
      let q_in : Contains inner_places q = Contains-from_place inner_places 0 q first in
      let positive : 0 < q = elim (cases_order 0 q) [
        | inl e ↦ absurd (parted 0 zero_in (subst (Contains inner_places) (sym e) q_in))
        | inr apart ↦ elim apart [ inl less ↦ less | inr more ↦ absurd (omega arith) ]
      ] in
      let inside : q < length (crossed_rows rows order i j) =
      joined_within (crossed_rows rows order i j) inner_component.node q
      ((inner_component.members q).0 q_in) in
      let (row, at) : (row : NodeRow) × (slice_get (crossed_rows rows order i j) q ≡ Some row) =
      item_at (crossed_rows rows order i j) q inside in
      let (zeroth, there) : (row : NodeRow) × (slice_get (crossed_rows rows order i j) 0 ≡ Some row) =
      item_at (crossed_rows rows order i j) 0 (omega arith) in
      let less = ids_rise (crossed_rows rows order i j) net' 0 q zeroth row positive there at in
      let one = least_first (crossed_rows rows order i j) net' outer_places outer_component 0 zeroth
      (first_zero outer_places outer_component.rising zero_in) there in
      let other = least_first (crossed_rows rows order i j) net' inner_places inner_component q row first at
      in
      omega arith

  pub parts : AreComponents (crossed_rows rows order i j) (outer_places ∷ inner_places ∷ [])
  parts = record {
    each = λ places in'. elim (Contains-cons_cases outer_places (inner_places ∷ []) places in') [
      | inl e ↦ subst (IsComponent (crossed_rows rows order i j)) e outer_component
      | inr later ↦ elim (Contains-cons_cases inner_places [] places later) [
        | inl e ↦ subst (IsComponent (crossed_rows rows order i j)) e inner_component
        | inr none ↦ let no = none.1 in absurd (omega arith)
      ]
    ];
    all = λ place within. elim (halves.either rows net labels order of i j pair place within) [
      | inl in' ↦ (
        outer_places,
        Contains-first outer_places (inner_places ∷ []),
        in_sorted (length (crossed_rows rows order i j)) outer outer_round.within place in',
      )
      | inr in' ↦ (
        inner_places,
        Contains-later outer_places (inner_places ∷ []) inner_places
            (Contains-first inner_places []),
        in_sorted (length (crossed_rows rows order i j)) inner inner_round.within place in',
      )
    ];
    order = rise;
  }
    where
      rise : AllPairs (λ places later. least_id (crossed_rows rows order i j) places
          < least_id (crossed_rows rows order i j) later) (outer_places ∷ inner_places ∷ [])
      rise zero zero d less within = absurd (omega arith)
      rise zero (suc zero) d less within = least_rise
      rise zero (suc (suc b)) d less within = absurd (omega arith)
      rise (suc a) zero d less within = absurd (omega arith)
      rise (suc a) (suc b) d less within = absurd (omega arith)

  pub two_parts : AreTwoRings (crossed_rows rows order i j) (length rows - (j - i)) (j - i)
  two_parts = record {
    first = outer_places;
    second = inner_places;
    components = parts;
    first_ring = ring_alone (crossed_rows rows order i j) net' two' outer outer_round;
    second_ring = ring_alone (crossed_rows rows order i j) net' two' inner inner_round;
    first_size = size (crossed_rows rows order i j) net' two' outer outer_round
        ∙ halves.outer_many rows net labels order of i j pair;
    second_size = size (crossed_rows rows order i j) net' two' inner inner_round
        ∙ halves.inner_many rows net labels order of i j pair;
  }
