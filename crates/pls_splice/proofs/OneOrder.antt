-- A ring has one order.
use Rattle.std.proofs.Common.{◌≡◌, ◌∙◌, ℕ, zero, suc, ◌+◌, ◌<◌, ◌≤◌, inl, inr, List, length, slice_get, Contains, Some, sym, ap, subst, arith}
use Rattle.std.proofs.lemmas.Option.{get_or_from_slice_get, same_Some, slice_get_within}
use Rattle.pls_configuration.specs.declared.row.NodeRow.{NodeRow}
use Rattle.pls_configuration.specs.Configuration.{IsNetwork}
use Rattle.pls_graph.specs.Places.{beside}
use Rattle.pls_facts.proofs.Lists.{same_at_places}
use Rattle.pls_components.proofs.Apart.{beside_turned}
use Rattle.pls_splice.specs.Ring.{IsOrder, IsRing, IsRingOrder, tail_of}
use Rattle.pls_splice.proofs.ComingHome.{ring_long}
use Rattle.pls_splice.proofs.Turning.{next_cases, only_two, places_differ}

module _ (rows : List NodeRow) (net : IsNetwork rows) (ring : IsRing rows) (long : 3 ≤ length rows) where
  -- each edge but the last leads to the next number
  leads : (order : List ℕ) → IsOrder rows order → (k : ℕ) → suc k < length order
      → Contains (beside rows (tail_of order k)) (tail_of order (suc k))
  leads order is k more = subst (Contains (beside rows (tail_of order k)))
      (elim (next_cases (length order) k (omega arith)) [
        | inl last ↦ let e = last.0 in absurd (omega arith)
        | inr on ↦
            let same : k + 1 ≡ suc k = omega arith in
            ap (tail_of order) (on.1 ∙ same)
      ])
      (is.edges k (omega arith))

  second : (order : List ℕ) → IsOrder rows order
      → slice_get (beside rows 0) 0 ≡ Some (tail_of order 1)
  second order is =
      let all = is.all in
      is.turn ∙ ap Some (elim (next_cases (length order) 0 (omega arith)) [
        | inl last ↦ let e = last.0 in absurd (omega arith)
        | inr on ↦ ap (tail_of order) on.1
      ])

  module _ (one other : List ℕ) (is : IsOrder rows one) (also : IsOrder rows other) where
    both : (k : ℕ) → suc k < length rows
        → (tail_of one k ≡ tail_of other k) × (tail_of one (suc k) ≡ tail_of other (suc k))
    both zero less = (
      is.first ∙ sym also.first,
      same_Some (tail_of one 1) (tail_of other 1) (sym (second one is) ∙ second other also),
    )
    both (suc k) less =
        let a = is.all in
        let b = also.all in
        let before : (tail_of one k ≡ tail_of other k)
        × (tail_of one (suc k) ≡ tail_of other (suc k)) = both k (omega arith) in
        let here : ℕ = tail_of one (suc k) in
        let within : here < length rows = is.within (suc k) 0 (omega arith) in
        let back : Contains (beside rows here) (tail_of one k) =
        beside_turned rows net (tail_of one k) here (is.within k 0 (omega arith))
        (leads one is k (omega arith)) in
        let on : Contains (beside rows here) (tail_of one (suc (suc k))) =
        leads one is (suc k) (omega arith) in
        let too : Contains (beside rows here) (tail_of other (suc (suc k))) =
        subst (λ (here : ℕ). Contains (beside rows here) (tail_of other (suc (suc k))))
        (sym before.1) (leads other also (suc k) (omega arith)) in (
          before.1,
          elim (only_two rows net ring.two here (tail_of one k) (tail_of one (suc (suc k)))
              (tail_of other (suc (suc k))) within back on too
              (places_differ one is.distinct k (suc (suc k)) (omega arith) (omega arith)
              (λ e. omega arith))) [
                | inl came ↦ absurd (places_differ other also.distinct (suc (suc k)) k (omega arith)
                    (omega arith) (λ e. omega arith) (came ∙ before.0))
                | inr same ↦ sym same
              ],
        )

    each : (k : ℕ) → k < length rows → tail_of one k ≡ tail_of other k
    each zero less = is.first ∙ sym also.first
    each (suc k) less = (both k less).1

    same_order : one ≡ other
    same_order =
        let a = is.all in
        let b = also.all in
        same_at_places one other (omega arith) (λ k x y at there.
        let inside = slice_get_within one k x at in
        sym (get_or_from_slice_get one k x 0 at) ∙ each k (omega arith)
        ∙ get_or_from_slice_get other k y 0 there)

-- two lists that are both the order of a ring are one
pub one_order : (rows : List NodeRow) → IsNetwork rows → (one other : List ℕ)
    → IsRingOrder rows one → IsRingOrder rows other → one ≡ other
one_order rows net one other is also =
    same_order rows net is.ring (ring_long rows net is.ring) one other is.round also.round
