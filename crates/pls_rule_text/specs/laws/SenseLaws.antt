-- Other fields leave an expression's form, and it makes sense over names as over their places.
use Rattle.std.proofs.Common.{◌≡◌, ◌∙◌, ℕ, ◌+◌, ◌&&◌, ◌||◌, nat_lt, Bool, true, false, List, [], ◌∷◌, length, if◌then◌else◌, refl, ap, arith}
use Rattle.std.specs.Str.{bytes_eq}
use Rattle.std.proofs.lemmas.Bool.{lt-ltb, ltb-true, ltb_from_iff}
use Rattle.pls_rules.specs.Formula.{Formula, Term, Eq, Lt, Le, Same, Both, Either, Not, All, Any, Number, Id, Mark, Num, Degree, Pointed, My, Up, UpWeight, Nb, NbWeight, NbUp, Add, Sum, formula_height, formula_nesting, term_height, term_nesting}
use Rattle.pls_rule_text.specs.RuleText.{Shallow, formula_with, is_among, is_known, is_term_known, place_of_name, rule_refusal, term_with}
use Rattle.pls_rule_text.specs.inner.Places.{is_placed, is_term_placed, placed_refusal}

module _ {F G : Type 0} (of : F → G) where
  -- parentheses stand as deep
  mutual
    pub height-with : (formula : Formula F) → formula_height (formula_with of formula) ≡ formula_height formula
    height-with (Eq a b) = rw (term_height-with a, term_height-with b) refl
    height-with (Lt a b) = rw (term_height-with a, term_height-with b) refl
    height-with (Le a b) = rw (term_height-with a, term_height-with b) refl
    height-with (Same a b) = rw (height-with a, height-with b) refl
    height-with (Both a b) = rw (height-with a, height-with b) refl
    height-with (Either a b) = rw (height-with a, height-with b) refl
    height-with (Not a) = rw (height-with a) refl
    height-with (All a) = rw (height-with a) refl
    height-with (Any a) = rw (height-with a) refl

    pub term_height-with : (term : Term F) → term_height (term_with of term) ≡ term_height term
    term_height-with (Number n) = refl
    term_height-with Id = refl
    term_height-with Mark = refl
    term_height-with Num = refl
    term_height-with Degree = refl
    term_height-with Pointed = refl
    term_height-with (My f) = refl
    term_height-with (Up f) = refl
    term_height-with UpWeight = refl
    term_height-with (Nb f) = refl
    term_height-with NbWeight = refl
    term_height-with NbUp = refl
    term_height-with (Add a b) = rw (term_height-with a, term_height-with b) refl
    term_height-with (Sum a b) = rw (height-with a, term_height-with b) refl

  -- quantifiers nest as deep
  mutual
    pub nesting-with : (formula : Formula F) → formula_nesting (formula_with of formula) ≡ formula_nesting formula
    nesting-with (Eq a b) = rw (term_nesting-with a, term_nesting-with b) refl
    nesting-with (Lt a b) = rw (term_nesting-with a, term_nesting-with b) refl
    nesting-with (Le a b) = rw (term_nesting-with a, term_nesting-with b) refl
    nesting-with (Same a b) = rw (nesting-with a, nesting-with b) refl
    nesting-with (Both a b) = rw (nesting-with a, nesting-with b) refl
    nesting-with (Either a b) = rw (nesting-with a, nesting-with b) refl
    nesting-with (Not a) = nesting-with a
    nesting-with (All a) = rw (nesting-with a) refl
    nesting-with (Any a) = rw (nesting-with a) refl

    pub term_nesting-with : (term : Term F) → term_nesting (term_with of term) ≡ term_nesting term
    term_nesting-with (Number n) = refl
    term_nesting-with Id = refl
    term_nesting-with Mark = refl
    term_nesting-with Num = refl
    term_nesting-with Degree = refl
    term_nesting-with Pointed = refl
    term_nesting-with (My f) = refl
    term_nesting-with (Up f) = refl
    term_nesting-with UpWeight = refl
    term_nesting-with (Nb f) = refl
    term_nesting-with NbWeight = refl
    term_nesting-with NbUp = refl
    term_nesting-with (Add a b) = rw (term_nesting-with a, term_nesting-with b) refl
    term_nesting-with (Sum a b) = rw (nesting-with a, term_nesting-with b) refl

-- a name is among some exactly where its place is below their number
pub place_below : (names : List (List ℕ)) (name : List ℕ)
    → nat_lt (place_of_name names name) (length names) ≡ is_among names name
place_below [] name = refl
place_below (first ∷ others) name = by (bytes_eq first name) (place_below others name)
  where
    further : (place : ℕ)
        → nat_lt (1 + place) (length (first ∷ others)) ≡ nat_lt place (length others)
    further place = ltb_from_iff (
      λ is. omega (arith, ltb-true (1 + place) (length (first ∷ others)) is),
      λ is. lt-ltb (1 + place) (length (first ∷ others)) (omega (arith, is)),
    )

    by : (here : Bool) → nat_lt (place_of_name others name) (length others) ≡ is_among others name
        → nat_lt (if here then 0 else (1 + place_of_name others name)) (length (first ∷ others))
        ≡ (here || is_among others name)
    by true later = lt-ltb 0 (length (first ∷ others)) (omega arith)
    by false later = further (place_of_name others name) ∙ later

-- fields are known exactly where their places are
module _ (names : List (List ℕ)) where
  abbrev has_places : Bool → Formula (List ℕ) → Bool
  has_places inside formula = is_placed (length names) inside (formula_with (place_of_name names) formula)

  abbrev term_has_places : Bool → Term (List ℕ) → Bool
  term_has_places inside term = is_term_placed (length names) inside (term_with (place_of_name names) term)

  mutual
    pub known-placed : (inside : Bool) (formula : Formula (List ℕ))
        → has_places inside formula ≡ is_known names inside formula
    known-placed inside (Eq a b) = rw (term_known-placed inside a, term_known-placed inside b) refl
    known-placed inside (Lt a b) = rw (term_known-placed inside a, term_known-placed inside b) refl
    known-placed inside (Le a b) = rw (term_known-placed inside a, term_known-placed inside b) refl
    known-placed inside (Same a b) = rw (known-placed inside a, known-placed inside b) refl
    known-placed inside (Both a b) = rw (known-placed inside a, known-placed inside b) refl
    known-placed inside (Either a b) = rw (known-placed inside a, known-placed inside b) refl
    known-placed inside (Not a) = known-placed inside a
    known-placed inside (All a) = known-placed true a
    known-placed inside (Any a) = known-placed true a

    term_known-placed : (inside : Bool) (term : Term (List ℕ))
        → term_has_places inside term ≡ is_term_known names inside term
    term_known-placed inside (Number n) = refl
    term_known-placed inside Id = refl
    term_known-placed inside Mark = refl
    term_known-placed inside Num = refl
    term_known-placed inside Degree = refl
    term_known-placed inside Pointed = refl
    term_known-placed inside (My f) = place_below names f
    term_known-placed inside (Up f) = place_below names f
    term_known-placed inside UpWeight = refl
    term_known-placed inside (Nb f) = ap (λ (b : Bool). inside && b) (place_below names f)
    term_known-placed inside NbWeight = refl
    term_known-placed inside NbUp = refl
    term_known-placed inside (Add a b) =
        rw (term_known-placed inside a, term_known-placed inside b) refl
    term_known-placed inside (Sum a b) = rw (known-placed true a, term_known-placed true b) refl

  -- and so a rule is refused over the names as over the places
  pub refusal-placed : (formula : Formula (List ℕ))
      → placed_refusal (length names) (formula_with (place_of_name names) formula)
      ≡ rule_refusal names (Shallow formula)
  refusal-placed formula =
      rw (nesting-with (place_of_name names) formula, known-placed false formula) refl
