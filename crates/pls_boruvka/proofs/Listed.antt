-- Lists that are filled from the front, of which each item is right for its place.
use Rattle.std.proofs.Common.{◌≡◌, ◌∙◌, ℕ, ◌<◌, inl, inr, List, [], ◌∷◌, ◌++◌, length, get_or, sym, subst, arith, length-append}
use Rattle.std.proofs.Math.Seq.{get_or-append_seam}
use Rattle.std.proofs.lemmas.Bool.{cases_lt}
use Rattle.std.proofs.lemmas.List.{get_or_append_left}
use Rattle.std.proofs.lemmas.Option.{get_or_from_slice_get, slice_get-get_or, slice_get_within}
use Rattle.pls_boruvka.specs.inner.Tops.{Each}

module _ {X : Type 0} (Right : ℕ → X → Type 0) where
  pub Each-none : Each Right []
  Each-none place x at = absurd (omega (arith, slice_get_within [] place x at))

  -- what stands at a place within the list
  pub Each-at : (xs : List X) (place : ℕ) (d : X) → Each Right xs → place < length xs
      → Right place (get_or xs place d)
  Each-at xs place d each within = each place (get_or xs place d) (slice_get-get_or xs place d
      within)

  -- one item more
  pub Each-push : (xs : List X) (size : ℕ) (x : X) → length xs ≡ size → Each Right xs
      → Right size x → Each Right (xs ++ x ∷ [])
  Each-push xs size x many each right place y at = elim (cases_lt place (length xs)) [
    | inl before ↦
        let here : get_or (xs ++ x ∷ []) place x ≡ y =
        get_or_from_slice_get (xs ++ x ∷ []) place y x at in
        subst (Right place) (sym (get_or_append_left xs (x ∷ []) x place before) ∙ here)
        (Each-at xs place x each before)
    | inr past ↦
        let within : place < length (xs ++ x ∷ []) =
        slice_get_within (xs ++ x ∷ []) place y at in
        let last : length xs ≡ place = omega (arith, length-append xs (x ∷ []), past, within) in
        let here : get_or (xs ++ x ∷ []) place x ≡ y =
        get_or_from_slice_get (xs ++ x ∷ []) place y x at in
        let is : x ≡ y = sym (get_or-append_seam xs x [] x)
        ∙ subst (λ (place' : ℕ). get_or (xs ++ x ∷ []) place' x ≡ y) (sym last) here in
        subst (Right place) is (subst (λ (place' : ℕ). Right place' x) (sym many ∙ last) right)
  ]
