-- What is said where nothing is refused: each rule makes sense over the fields, and its fields can
-- be named again.
use Rattle.std.proofs.Common.{◌≡◌, ◌∙◌, ℕ, suc, ◌<◌, ◌≤◌, ◌+◌, ◌||◌, nat_lt, Bool, true, false, List, [], ◌∷◌, length, Some, None, if◌then◌else◌, refl, ap, arith}
use Rattle.std.specs.Str.{bytes_eq}
use Rattle.std.proofs.lemmas.Bool.{and_parts, ltb-false, ltb-true}
use Rattle.std.proofs.lemmas.Slice.Eq.{bytes_eq-Decides}
use Rattle.pls_streams.specs.declared.refusal_number.TheConstants.{DEPTH, FIELD}
use Rattle.pls_rules.specs.Formula.{Formula, Term, Eq, Lt, Le, Same, Both, Either, Not, All as Each, Any, Number, Id, Mark, Num, Degree, Pointed, My, Up, UpWeight, Nb, NbWeight, NbUp, Add, Sum, formula_nesting}
use Rattle.pls_rules.specs.RuleSet.{FormulaFits, IsRule, TermFits}
use Rattle.pls_rule_text.specs.FieldNames.{name_at}
use Rattle.pls_rule_text.specs.FormulaText.{FormulaIsWritten, TermIsWritten}
use Rattle.pls_rule_text.specs.RuleText.{FitsRule, Shallow, formula_with, is_among, is_known, is_term_known, place_of_name, rule_refusal, term_with}
use Rattle.pls_rule_text.specs.laws.SenseLaws.{height-with, nesting-with, place_below}

no_truth : false ≡ true → ⊥
no_truth e = absurd (cc e)

module _ (names : List (List ℕ)) where
  known_below : (name : List ℕ) → is_among names name ≡ true → place_of_name names name < length names
  known_below name known =
      ltb-true (place_of_name names name) (length names) (place_below names name ∙ known)

  abbrev placed : Formula (List ℕ) → Formula ℕ
  placed formula = formula_with (place_of_name names) formula

  abbrev term_placed : Term (List ℕ) → Term ℕ
  term_placed term = term_with (place_of_name names) term

  -- what is known fits
  mutual
    known_fits : (inside : Bool) (formula : Formula (List ℕ)) → FormulaIsWritten formula
        → is_known names inside formula ≡ true
        → FormulaFits (length names) inside (placed formula)
    known_fits inside (Eq a b) w k =
        let both = and_parts (is_term_known names inside a) (is_term_known names inside b) k in
        (term_known_fits inside a w.0 both.0, term_known_fits inside b w.1 both.1)
    known_fits inside (Lt a b) w k =
        let both = and_parts (is_term_known names inside a) (is_term_known names inside b) k in
        (term_known_fits inside a w.0 both.0, term_known_fits inside b w.1 both.1)
    known_fits inside (Le a b) w k =
        let both = and_parts (is_term_known names inside a) (is_term_known names inside b) k in
        (term_known_fits inside a w.0 both.0, term_known_fits inside b w.1 both.1)
    known_fits inside (Same a b) w k =
        let both = and_parts (is_known names inside a) (is_known names inside b) k in
        (known_fits inside a w.0 both.0, known_fits inside b w.1 both.1)
    known_fits inside (Both a b) w k =
        let both = and_parts (is_known names inside a) (is_known names inside b) k in
        (known_fits inside a w.0 both.0, known_fits inside b w.1 both.1)
    known_fits inside (Either a b) w k =
        let both = and_parts (is_known names inside a) (is_known names inside b) k in
        (known_fits inside a w.0 both.0, known_fits inside b w.1 both.1)
    known_fits inside (Not a) w k = known_fits inside a w k
    known_fits inside (Each a) w k = known_fits true a w k
    known_fits inside (Any a) w k = known_fits true a w k

    term_known_fits : (inside : Bool) (term : Term (List ℕ)) → TermIsWritten term
        → is_term_known names inside term ≡ true → TermFits (length names) inside (term_placed term)
    term_known_fits inside (Number n) w k = w
    term_known_fits inside Id w k = tt
    term_known_fits inside Mark w k = tt
    term_known_fits inside Num w k = tt
    term_known_fits inside Degree w k = tt
    term_known_fits inside Pointed w k = tt
    term_known_fits inside (My f) w k = known_below f k
    term_known_fits inside (Up f) w k = known_below f k
    term_known_fits inside UpWeight w k = tt
    term_known_fits inside (Nb f) w k =
        let both = and_parts inside (is_among names f) k in (known_below f both.1, both.0)
    term_known_fits inside NbWeight w k = k
    term_known_fits inside NbUp w k = k
    term_known_fits inside (Add a b) w k =
        let both = and_parts (is_term_known names inside a) (is_term_known names inside b) k in
        (term_known_fits inside a w.0 both.0, term_known_fits inside b w.1 both.1)
    term_known_fits inside (Sum a b) w k =
        let both = and_parts (is_known names true a) (is_term_known names true b) k in
        (known_fits true a w.0 both.0, term_known_fits true b w.1 both.1)

-- a name has the number of its place
pub name_at-place : (names : List (List ℕ)) (name : List ℕ) → is_among names name ≡ true
    → name_at names (place_of_name names name) ≡ name
name_at-place [] name known = absurd (no_truth known)
name_at-place (first ∷ others) name known =
    by (bytes_eq first name) refl known (λ later. name_at-place others name later)
  where
    by : (here : Bool) → bytes_eq first name ≡ here → (here || is_among others name) ≡ true
        → (is_among others name ≡ true → name_at others (place_of_name others name) ≡ name)
        → name_at (first ∷ others) (if here then 0 else (1 + place_of_name others name)) ≡ name
    by true is later again = (bytes_eq-Decides first name).0 is
    by false is later again =
        let next : 1 + place_of_name others name ≡ suc (place_of_name others name) = omega arith in
        ap (λ (place : ℕ). name_at (first ∷ others) place) next ∙ again later

module _ (names : List (List ℕ)) where
  abbrev named : Formula (List ℕ) → Formula (List ℕ)
  named formula = formula_with (name_at names) (formula_with (place_of_name names) formula)

  abbrev term_named : Term (List ℕ) → Term (List ℕ)
  term_named term = term_with (name_at names) (term_with (place_of_name names) term)

  -- what is known can be named again
  mutual
    pub known_again : (inside : Bool) (formula : Formula (List ℕ))
        → is_known names inside formula ≡ true → named formula ≡ formula
    known_again inside (Eq a b) k =
        let both = and_parts (is_term_known names inside a) (is_term_known names inside b) k in
        rw (term_known_again inside a both.0, term_known_again inside b both.1) refl
    known_again inside (Lt a b) k =
        let both = and_parts (is_term_known names inside a) (is_term_known names inside b) k in
        rw (term_known_again inside a both.0, term_known_again inside b both.1) refl
    known_again inside (Le a b) k =
        let both = and_parts (is_term_known names inside a) (is_term_known names inside b) k in
        rw (term_known_again inside a both.0, term_known_again inside b both.1) refl
    known_again inside (Same a b) k =
        let both = and_parts (is_known names inside a) (is_known names inside b) k in
        rw (known_again inside a both.0, known_again inside b both.1) refl
    known_again inside (Both a b) k =
        let both = and_parts (is_known names inside a) (is_known names inside b) k in
        rw (known_again inside a both.0, known_again inside b both.1) refl
    known_again inside (Either a b) k =
        let both = and_parts (is_known names inside a) (is_known names inside b) k in
        rw (known_again inside a both.0, known_again inside b both.1) refl
    known_again inside (Not a) k = rw (known_again inside a k) refl
    known_again inside (Each a) k = rw (known_again true a k) refl
    known_again inside (Any a) k = rw (known_again true a k) refl

    term_known_again : (inside : Bool) (term : Term (List ℕ))
        → is_term_known names inside term ≡ true → term_named term ≡ term
    term_known_again inside (Number n) k = refl
    term_known_again inside Id k = refl
    term_known_again inside Mark k = refl
    term_known_again inside Num k = refl
    term_known_again inside Degree k = refl
    term_known_again inside Pointed k = refl
    term_known_again inside (My f) k = ap My (name_at-place names f k)
    term_known_again inside (Up f) k = ap Up (name_at-place names f k)
    term_known_again inside UpWeight k = refl
    term_known_again inside (Nb f) k =
        ap Nb (name_at-place names f (and_parts inside (is_among names f) k).1)
    term_known_again inside NbWeight k = refl
    term_known_again inside NbUp k = refl
    term_known_again inside (Add a b) k =
        let both = and_parts (is_term_known names inside a) (is_term_known names inside b) k in
        rw (term_known_again inside a both.0, term_known_again inside b both.1) refl
    term_known_again inside (Sum a b) k =
        let both = and_parts (is_known names true a) (is_term_known names true b) k in
        rw (known_again true a both.0, term_known_again true b both.1) refl

  -- a rule that is not refused has few quantifiers inside one another, and knows its names
  record Sensible (formula : Formula (List ℕ)) : Type 0 where
    nested : formula_nesting formula ≤ 2
    known : is_known names false formula ≡ true

  sensible : (formula : Formula (List ℕ)) → rule_refusal names (Shallow formula) ≡ None
      → Sensible formula
  sensible formula none =
      by (nat_lt 2 (formula_nesting formula)) refl (is_known names false formula) refl none
    where
      by : (deep : Bool) → nat_lt 2 (formula_nesting formula) ≡ deep
          → (known : Bool) → is_known names false formula ≡ known
          → (if deep then Some DEPTH else (if known then None else Some FIELD)) ≡ None
          → Sensible formula
      by true is known k e = absurd (cc e)
      by false is false k e = absurd (cc e)
      by false is true k e =
          record { nested = ltb-false 2 (formula_nesting formula) is; known = k }

  pub accepted_again : (formula : Formula (List ℕ)) → rule_refusal names (Shallow formula) ≡ None
      → named formula ≡ formula
  accepted_again formula none = known_again false formula (sensible formula none).known

  pub accepted_rule : (formula : Formula (List ℕ)) → FitsRule (Shallow formula)
      → rule_refusal names (Shallow formula) ≡ None
      → IsRule (length names) (formula_with (place_of_name names) formula)
  accepted_rule formula fits none =
      let sense = sensible formula none in
      record {
        fits = known_fits names false formula fits.writable sense.known;
        shallow = omega (arith, height-with (place_of_name names) formula, fits.shallow);
        nested = omega (arith, nesting-with (place_of_name names) formula, sense.nested);
      }
