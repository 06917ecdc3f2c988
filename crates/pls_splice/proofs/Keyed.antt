-- The keys of edges in a list, one after another.
use Rattle.std.proofs.Common.{◌≡◌, ◌∙◌, ℕ, zero, suc, ◌+◌, ◌<◌, inl, inr, List, [], ◌∷◌, ◌++◌, length, get_or, slice_get, Some, length-append, sym, ap, arith}
use Rattle.std.specs.HashMap.{HashMap}
use Rattle.std.specs.Map.{lookup}
use Rattle.std.proofs.lemmas.Option.{slice_get-get_or}
use Rattle.pls_graph.proofs.Ranged.{at_push_cases}
use Rattle.pls_splice.specs.inner.Finding.{AreKeys, HasFirst, same_words}

module _ {X : Type 0} where
  kept_at : (xs ys : List X) (k : ℕ) (x : X) → slice_get xs k ≡ Some x
      → slice_get (xs ++ ys) k ≡ Some x
  kept_at [] ys k x at = absurd (cc)
  kept_at (y ∷ xs) ys zero x at = at
  kept_at (y ∷ xs) ys (suc k) x at = kept_at xs ys k x at

module _ {K : Type 0} (words : K → List ℕ) (key : ℕ → List ℕ) where
  pub keys_more : (keys new : List K) (i : ℕ) (x : K) → length keys ≡ i → AreKeys words keys key
      → words x ≡ key i → new ≡ keys ++ x ∷ [] → (length new ≡ i + 1) × AreKeys words new key
  keys_more keys new i x many are is put = (
    (let longer = ap length put in let more = length-append keys (x ∷ []) in omega arith),
    (λ k found at. elim (at_push_cases keys x k found
        (sym (ap (λ (keys : List K). slice_get keys k) put) ∙ at)) [
          | inl here ↦
              let e = here.0 in
              let same : i ≡ k = omega arith in
              ap words here.1 ∙ is ∙ ap key same
          | inr other ↦ are k found other.1
        ]),
  )

  -- keys that are fewer by the last
  pub keys_less : (keys new : List K) (x : K) → keys ≡ new ++ x ∷ [] → AreKeys words keys key
      → AreKeys words new key
  keys_less keys new x put are k found at =
      are k found (ap (λ (keys : List K). slice_get keys k) put ∙ kept_at new (x ∷ []) k found at)

  pub key_here : (keys : List K) (k : ℕ) (x : K) → AreKeys words keys key → k < length keys
      → x ≡ get_or keys k x → words x ≡ key k
  key_here keys k x are less is =
      ap words is ∙ are k (get_or keys k x) (slice_get-get_or keys k x less)

  -- a table without entries has no number
  pub table_none : {S : Type 0} (table : HashMap K ℕ S) (from count : ℕ) → table.entries ≡ [] → count ≡ 0
      → HasFirst words table key from count
  table_none table from count empty none = rw none (λ q.
      ap (lookup (λ y. same_words (words q) (words y))) empty)
