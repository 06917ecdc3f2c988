-- Lists of versions with the numbers of their labels, column by column.
use Rattle.std.proofs.Common.{◌≡◌, ◌∙◌, ℕ, zero, suc, ◌+◌, inl, inr, List, [], ◌∷◌, ◌++◌, map, get_or, replicate, refl, sym, ap, arith}
use Rattle.std.proofs.Math.Seq.{get_or-append_seam}
use Rattle.std.proofs.lemmas.Bool.{cases_lt}
use Rattle.std.proofs.lemmas.List.{get_or_append_left, length-append, replicate-append-replicate}
use Rattle.pls_watch.specs.inner.Numbers.{ArePlaces}

pub map-replicate : {X Y : Type 0} (f : X → Y) (count : ℕ) (x : X)
    → map f (replicate count x) ≡ replicate count (f x)
map-replicate f zero x = refl
map-replicate {X} {Y} f (suc count) x =
    ap (λ (rest : List Y). f x ∷ rest) (map-replicate f count x)

-- one nought more
pub noughts_more : (count : ℕ) → replicate {A = ℕ} count 0 ++ 0 ∷ [] ≡ replicate (count + 1) 0
noughts_more count = replicate-append-replicate count 1 0

-- one place more
pub places_more : (count : ℕ) (places : List ℕ) → ArePlaces count places
    → ArePlaces (count + 1) (places ++ count ∷ [])
places_more count places are = (
  omega (arith, length-append places (count ∷ []), are.0),
  λ place within. elim (cases_lt place count) [
    | inl earlier ↦ get_or_append_left places (count ∷ []) 0 place (omega (arith, are.0, earlier))
        ∙ are.1 place earlier
    | inr later ↦ last place (omega (arith, later, within))
  ],
)
  where
    last : (place : ℕ) → place ≡ count → get_or (places ++ count ∷ []) place 0 ≡ place
    last place same =
        ap (λ (k : ℕ). get_or (places ++ count ∷ []) k 0) (same ∙ sym are.0)
        ∙ get_or-append_seam places count [] 0 ∙ sym same
