-- Items behind the first ones.
use Rattle.std.proofs.Common.{◌≡◌, ◌∙◌, ℕ, ◌+◌, ◌≤◌, inl, inr, List, [], ◌∷◌, length, drop, Some, None, slice_get, sym, ap, arith}
use Rattle.std.proofs.lemmas.Bool.{cases_lt}
use Rattle.std.proofs.lemmas.List.{drop-drop, drop_more, get_or-drop, length-drop}
use Rattle.std.proofs.lemmas.Option.{get_or_from_slice_get, slice_get-get_or, slice_get_past, slice_get_within}
use Rattle.pls_graph.proofs.Finds.{item_at}

-- what stands at a place behind the first items
pub slice_get-behind : {X : Type 0} (xs : List X) (n k : ℕ)
    → slice_get (drop n xs) k ≡ slice_get xs (n + k)
slice_get-behind xs n k = elim (cases_lt (n + k) (length xs)) [
  | inl within ↦
      let (x, at) = item_at xs (n + k) within in
      slice_get-get_or (drop n xs) k x (let long = length-drop n xs in omega (arith, long, within))
      ∙ ap Some (get_or-drop n xs k x) ∙ sym (slice_get-get_or xs (n + k) x within)
  | inr past ↦
      slice_get_past (drop n xs) k (let long = length-drop n xs in omega (arith, long, past))
      ∙ sym (slice_get_past xs (n + k) past)
]

-- where nothing is behind the first items, nothing stands at later places
pub nothing_behind : {X : Type 0} (xs : List X) (n k : ℕ) → drop n xs ≡ [] → n ≤ k
    → slice_get xs k ≡ None
nothing_behind xs n k none later = slice_get_past xs k
    (let long = length-drop n xs in let zero = ap length none in omega (arith, long, zero, later))

-- the first of the items behind some, and those behind it
pub drop_split : {X : Type 0} (xs : List X) (n : ℕ) (x : X) → drop n xs ≡ x ∷ drop 1 (drop n xs)
    → drop n xs ≡ x ∷ drop (n + 1) xs
drop_split xs n x is = is ∙ ap (λ rest. x ∷ rest) (drop-drop 1 n xs)

-- it stands at the place behind them
pub drop_at : {X : Type 0} (xs : List X) (n : ℕ) (x : X) → drop n xs ≡ x ∷ drop 1 (drop n xs)
    → slice_get xs n ≡ Some x
drop_at xs n x is =
    let same : n + 0 ≡ n = omega arith in
    ap (slice_get xs) (sym same) ∙ sym (slice_get-behind xs n 0)
    ∙ ap (λ items. slice_get items 0) is

-- and what stands there is the first of those
pub drop_from : {X : Type 0} (xs : List X) (n : ℕ) (x : X) → slice_get xs n ≡ Some x
    → drop n xs ≡ x ∷ drop (n + 1) xs
drop_from xs n x at = drop_more xs n x (slice_get_within xs n x at)
    ∙ ap (λ first. first ∷ drop (n + 1) xs) (get_or_from_slice_get xs n x x at)
