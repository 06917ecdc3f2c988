-- The greatest bound and the sum of the bounds, as numbers of 64 bits.
use Rattle.std.proofs.Common.{◌≡◌, ◌∙◌, ℕ, ◌+◌, ◌*◌, ◌≤◌, min, max, fold, inl, inr, List, [], ◌∷◌, ◌++◌, map, take, slice_get, Some, refl, sym, ap, arith}
use Rattle.std.specs.List.{sum_by}
use Rattle.std.proofs.Math.Nat.{le-mul_of_pos_right, mul_comm}
use Rattle.std.proofs.lemmas.Bool.{cases_lt}
use Rattle.std.proofs.lemmas.List.{map-append}
use Rattle.std.proofs.lemmas.List.Sums.{sum_by_push}
use Rattle.pls_graph.specs.Size.{greatest}
use Rattle.pls_facts.proofs.Lists.{take_one_more}

pub greatest-append : (xs ys : List ℕ) → greatest (xs ++ ys) ≡ max (greatest xs) (greatest ys)
greatest-append [] ys = omega arith
greatest-append (x ∷ xs) ys = rw (greatest-append xs ys) (omega arith)

-- the greatest with one more
pub greatest_one_more : {X : Type 0} (f : X → ℕ) (xs : List X) (x : X)
    → greatest (map f (xs ++ x ∷ [])) ≡ max (greatest (map f xs)) (f x)
greatest_one_more f xs x =
    ap greatest (map-append f xs (x ∷ [])) ∙ greatest-append (map f xs) (f x ∷ []) ∙ omega arith

fold-from : {X : Type 0} (f : X → ℕ) (least : ℕ) (xs : List X)
    → fold (λ most x. max most (f x)) least xs ≡ max least (greatest (map f xs))
fold-from f least [] = omega arith
fold-from f least (x ∷ xs) = fold-from f (max least (f x)) xs ∙ omega arith

-- the greatest so far, over the whole list
pub fold_greatest : {X : Type 0} (f : X → ℕ) (xs : List X)
    → fold (λ most x. max most (f x)) 0 xs ≡ greatest (map f xs)
fold_greatest f xs = fold-from f 0 xs ∙ omega arith

pub greatest-more : {X : Type 0} (f : X → ℕ) (xs : List X) (k most limit : ℕ) (x : X)
    → slice_get xs k ≡ Some x → most ≡ min (greatest (map f (take k xs))) limit
    → max most (min (f x) limit) ≡ min (greatest (map f (take (k + 1) xs))) limit
greatest-more {X} f xs k most limit x at so_far =
    let all : greatest (map f (take (k + 1) xs)) ≡ max (greatest (map f (take k xs))) (f x) =
    ap (λ (front : List X). greatest (map f front)) (sym (take_one_more xs k x (take k xs) refl at))
    ∙ greatest_one_more f (take k xs) x in
    omega arith

-- one component more in a sum that stops at a limit
pub saturated : (sum count bound limit : ℕ) → 1 ≤ count
    → min (min sum limit + min (min bound limit * count) limit) limit
    ≡ min (sum + count * bound) limit
saturated sum count bound limit some = elim (cases_lt limit bound) [
  | inr small ↦
      let same : min bound limit * count ≡ count * bound =
      ap (λ (b : ℕ). b * count) (let e : min bound limit ≡ bound = omega arith in e)
      ∙ mul_comm bound count in
      omega arith
  | inl great ↦
      let same : min bound limit * count ≡ limit * count =
      ap (λ (b : ℕ). b * count) (let e : min bound limit ≡ limit = omega arith in e) in
      let more : limit ≤ limit * count = at_least limit count some in
      let much : bound ≤ count * bound = let e = at_least bound count some in
      let c = mul_comm bound count in omega arith in
      omega arith
]
  where
    at_least : (a n : ℕ) → 1 ≤ n → a ≤ a * n
    at_least a n some = le-mul_of_pos_right a (omega arith)

pub sum-more : {X : Type 0} (f : X → ℕ) (xs : List X) (k : ℕ) (x : X) → slice_get xs k ≡ Some x
    → sum_by f (take (k + 1) xs) ≡ sum_by f (take k xs) + f x
sum-more f xs k x at = ap (sum_by f) (sym (take_one_more xs k x (take k xs) refl at)) ∙ sum_by_push f (take k xs) x
