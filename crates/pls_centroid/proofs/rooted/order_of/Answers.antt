use Rattle.std.proofs.Common.{◌≡◌, ◌∙◌, ℕ, List, length, map, take, drop, rules, ap, subst, arith}
use Rattle.std.specs.List.Sorted.{IsNonDecreasingBy, IsPermutation}
use Rattle.std.proofs.lemmas.List.Sorted.{IsNonDecreasingBy-from_sort_by_key}
use Rattle.pls_centroid.proofs.Sorted.{by_depth, taken_front}
use Rattle.pls_centroid.proofs.rooted.order_of.Goals as goal

pub returns : goal.returns
returns c =
    let pairs : List (ℕ × ℕ) = c.loop-place.pairs.items in
    let sorted : List (ℕ × ℕ) = c.sort_unstable_by_key.new.self in
    let ends = c.loop-place-test.false in
    let most = c.loop-place.auto.place-end in
    let each = c.loop-place.invariant.each in
    let moved : IsPermutation pairs sorted =
    subst (λ (list : List (ℕ × ℕ)). IsPermutation list sorted) c.as_mut_slice.ensures.value
    c.sort_unstable_by_key.ensures.permutation in
    let rises : IsNonDecreasingBy (λ (pair : ℕ × ℕ). pair.0) sorted =
    IsNonDecreasingBy-from_sort_by_key (λ (pair : ℕ × ℕ). pair.0) _
    c.sort_unstable_by_key.ensures.sorted (λ a r q k. search rules) in
    let items : c.deref-pair-items.result.now ≡ sorted = c.deref-pair-items.ensures.value
    ∙ taken_front sorted (drop (length sorted) pairs) c.loop-place.pairs.len
    (let one = c.sort_unstable_by_key.ensures.len in let two = c.as_mut_slice.ensures.len in
    let three = ap length c.as_mut_slice.ensures.value in omega (arith, one, two, three)) in
    by_depth c.args.depths.now pairs sorted (omega (arith, ends, most, each))
    c.loop-place.invariant.pair moved rises c.loop-pair.order.items c.loop-pair.pair-index
    (let past = c.loop-pair-test.false in let long = ap length items in omega (arith, past, long))
    (c.loop-pair.invariant ∙ ap (λ (list : List (ℕ × ℕ)). map (λ (pair : ℕ × ℕ). pair.1)
    (take c.loop-pair.pair-index list)) items)
