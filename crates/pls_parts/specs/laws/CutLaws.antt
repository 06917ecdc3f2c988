-- Labels of conjunctions, cut into their parts.
use Rattle.std.proofs.Common.{◌≡◌, ◌∙◌, ℕ, ◌≤◌, ◌++◌, Bool, List, [], ◌∷◌, length, take, drop, Option, Some, refl, ap, true, false, None, if◌then◌else◌, nat_le, option_and_then, arith}
use Rattle.std.proofs.lemmas.Bool.{leb-true}
use Rattle.std.proofs.lemmas.List.{length-take-le, take-append-drop}
use Rattle.std.proofs.lemmas.Option.{same_Some}
use Rattle.pls_bits.specs.declared.num_code.TheConstants.{MAX_CODED}
use Rattle.pls_bits.specs.NumberCode.{TakesOnly}
use Rattle.pls_parts.specs.Parts.{cut_at, parts_of}
use Rattle.pls_parts.specs.Joined.{joined_bits}

-- the front of two lists, taken off, is the first
pub take_front : (front back : List Bool) → take (length front) (front ++ back) ≡ front
take_front [] back = refl
take_front (bit ∷ front) back = ap (λ (bits : List Bool). bit ∷ bits) (take_front front back)

-- and what is left is the second
pub drop_front : (front back : List Bool) → drop (length front) (front ++ back) ≡ back
drop_front [] back = refl
drop_front (bit ∷ front) back = drop_front front back

-- two parts
abbrev pub both_parts : List Bool → List Bool → List Bool × List Bool
both_parts front back = (front, back)

-- a number and the bits behind it
abbrev pub number_and : ℕ → List Bool → ℕ × List Bool
number_and number rest = (number, rest)

-- bits that have two parts are these, joined
pub parts_joined : (code : ℕ → List Bool) (takes : List Bool → Option (ℕ × List Bool))
    → TakesOnly code takes → (bits front back : List Bool)
    → Some (both_parts front back) ≡ parts_of takes bits
    → (length front ≤ MAX_CODED) × (bits ≡ joined_bits code front back)
parts_joined code takes only bits front back is = by (takes bits) refl is
  where
    cut : (number : ℕ) (rest : List Bool) → takes bits ≡ Some (number_and number rest) → (b : Bool)
        → nat_le number (length rest) ≡ b
        → Some (both_parts front back) ≡ (if b then Some (cut_at number rest) else None)
        → (length front ≤ MAX_CODED) × (bits ≡ joined_bits code front back)
    cut number rest off false few is = absurd (cc)
    cut number rest off true few is =
        let parts : both_parts front back ≡ cut_at number rest =
        same_Some (both_parts front back) (cut_at number rest) is in
        let front_is : front ≡ take number rest = ap (λ (c : List Bool × List Bool). c.0) parts in
        let back_is : back ≡ drop number rest = ap (λ (c : List Bool × List Bool). c.1) parts in
        let long : length front ≡ number =
        ap length front_is ∙ length-take-le number rest (leb-true number (length rest) few) in
        let whole : front ++ back ≡ rest =
        rw (front_is, back_is) (take-append-drop number rest) in (
          omega (arith, long, (only bits number rest off).0),
          (only bits number rest off).1 ∙ rw (long, whole) refl,
        )

    by : (found : Option (ℕ × List Bool)) → takes bits ≡ found
        → Some (both_parts front back)
        ≡ option_and_then (λ taken. if nat_le taken.0 (length taken.1)
        then Some (cut_at taken.0 taken.1) else None) found
        → (length front ≤ MAX_CODED) × (bits ≡ joined_bits code front back)
    by None off is = absurd (cc)
    by (Some taken) off is =
        cut taken.0 taken.1 off (nat_le taken.0 (length taken.1)) refl is
