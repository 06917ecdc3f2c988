-- Lists with one more item, as what is read of a node is with one more port.
use Rattle.std.proofs.Common.{◌≡◌, ◌≢◌, ◌∙◌, ◌⊎◌, inl, inr, arith, ℕ, zero, suc, ◌+◌, ◌==◌, Bool, true, false, ◌&&◌, if◌then◌else◌, List, [], ◌∷◌, ◌++◌, length, Option, Some, None, slice_get, refl, sym, ap}
use Rattle.std.specs.List.{enumerate_from, list_all}
use Rattle.std.specs.Option.{option_and_then}
use Rattle.std.proofs.lemmas.Bool.{cases_eq, eq-eqb, ne_eqb}
use Rattle.std.proofs.lemmas.List.Folds.{list_all-append}
use Rattle.pls_scheme.specs.Reading.{is_pointer}

-- a test of all with one more
pub all_more : {X : Type 0} (test : X → Bool) (items : List X) (last : X)
    → list_all test (items ++ last ∷ []) ≡ (list_all test items && test last)
all_more test items last = list_all-append test items (last ∷ [])
    ∙ ap (λ (b : Bool). list_all test items && b) (and_true (test last))
  where
    and_true : (b : Bool) → (b && true) ≡ b
    and_true true = refl
    and_true false = refl

-- the last of numbered items has the number of those before it
numbered_more : {X : Type 0} (first : ℕ) (items : List X) (last : X)
    → enumerate_from first (items ++ last ∷ [])
    ≡ enumerate_from first items ++ (first + length items, last) ∷ []
numbered_more {X} first [] last =
    let here : first ≡ first + 0 = omega arith in
    ap (λ (number : ℕ). let one : ℕ × X = (number, last) in one ∷ []) here
numbered_more {X} first (item ∷ items) last =
    let here : first + 1 + length items ≡ first + suc (length items) = omega arith in
    let one : ℕ × X = (first, item) in
    ap (λ (rest : List (ℕ × X)). one ∷ rest) (numbered_more (first + 1) items last
    ∙ ap (λ (number : ℕ). let one : ℕ × X = (number, last) in
    enumerate_from (first + 1) items ++ one ∷ []) here)

pub numbered_from_0 : {X : Type 0} (items : List X) (last : X)
    → enumerate_from 0 (items ++ last ∷ []) ≡ enumerate_from 0 items ++ (length items, last) ∷ []
numbered_from_0 {X} items last =
    let here : 0 + length items ≡ length items = omega arith in
    numbered_more 0 items last ∙ ap (λ (number : ℕ). let one : ℕ × X = (number, last) in
    enumerate_from 0 items ++ one ∷ []) here

-- what stands at the place that a pointer names, with one more item
pub at_pointer_more : {X : Type 0} (items : List X) (last : X) (up : Option ℕ)
    → option_and_then (slice_get (items ++ last ∷ [])) up
    ≡ (if is_pointer up (length items) then Some last else option_and_then (slice_get items) up)
at_pointer_more items last None = refl
at_pointer_more {X} items last (Some number) = at items number
  where
    at : (items : List X) (number : ℕ) → slice_get (items ++ last ∷ []) number
        ≡ (if number == length items then Some last else slice_get items number)
    at [] zero = refl
    at [] (suc number) = rw (ne_eqb (suc number) 0 (λ same. absurd (cc))) refl
    at (first ∷ items) zero = rw (ne_eqb 0 (suc (length items)) (λ same. absurd (cc))) refl
    at (first ∷ items) (suc number) =
        at items number
        ∙ ap (λ (here : Bool). if here then Some last else slice_get items number)
        (by (cases_eq number (length items)))
      where
        by : ((number ≡ length items) ⊎ (number ≢ length items))
            → (number == length items) ≡ (suc number == suc (length items))
        by (inl same) = eq-eqb number (length items) same
            ∙ sym (eq-eqb (suc number) (suc (length items)) (ap suc same))
        by (inr apart) = ne_eqb number (length items) apart
            ∙ sym (ne_eqb (suc number) (suc (length items)) (λ same. apart (omega (arith, same))))
