-- A list with one item more behind it.
use Rattle.std.proofs.Common.{◌≡◌, ◌∙◌, ℕ, zero, suc, ◌<◌, ◌++◌, inl, inr, List, [], ◌∷◌, length, get_or, Some, slice_get, refl, sym, ap, subst, arith, length-append}
use Rattle.std.proofs.lemmas.Bool.{cases_lt}
use Rattle.std.proofs.lemmas.Option.{slice_get_within, get_or_from_slice_get}
use Rattle.std.proofs.Math.Seq.{get_or-append_seam}

-- an item stays where others come behind
pub get_kept : {X : Type 0} (xs ys : List X) (i : ℕ) → i < length xs
    → slice_get (xs ++ ys) i ≡ slice_get xs i
get_kept [] ys i within = absurd (omega (arith, within))
get_kept (x ∷ xs) ys zero within = refl
get_kept (x ∷ xs) ys (suc i) within = get_kept xs ys i (omega (arith, within))

-- what stands behind all others
pub last_is : {X : Type 0} (xs : List X) (last x : X) (i : ℕ) → i ≡ length xs
    → slice_get (xs ++ last ∷ []) i ≡ Some x → last ≡ x
last_is xs last x i here at =
    sym (get_or-append_seam xs last [] last)
    ∙ ap (λ (i : ℕ). get_or (xs ++ last ∷ []) i last) (sym here)
    ∙ get_or_from_slice_get (xs ++ last ∷ []) i x last at

-- what holds of each item at its place, and of the one behind
pub each_more : {X : Type 0} (Holds : ℕ → X → Type 0) (xs : List X) (last : X)
    → ((i : ℕ) (x : X) → slice_get xs i ≡ Some x → Holds i x) → Holds (length xs) last
    → (i : ℕ) (x : X) → slice_get (xs ++ last ∷ []) i ≡ Some x → Holds i x
each_more Holds xs last each behind i x at = elim (cases_lt i (length xs)) [
  | inl before ↦ each i x (sym (get_kept xs (last ∷ []) i before) ∙ at)
  | inr past ↦
      let within = slice_get_within (xs ++ last ∷ []) i x at in
      let here : i ≡ length xs =
      omega (arith, past, within, length-append xs (last ∷ [])) in
      subst (λ (i : ℕ). Holds i x) (sym here)
      (subst (Holds (length xs)) (last_is xs last x i here at) behind)
]
