-- What is printed of a rule: it says the same rule, and makes sense.
use Rattle.std.proofs.Common.{◌≡◌, ◌∙◌, ℕ, zero, suc, ◌<◌, ◌≤◌, nat_lt, All, Bool, true, false, List, [], ◌∷◌, length, None, refl, sym, ap, arith}
use Rattle.std.proofs.lemmas.Bool.{and_from, lt-ltb, ltb-true}
use Rattle.std.proofs.lemmas.Slice.Eq.{bytes_eq-Decides}
use Rattle.pls_rules.specs.Formula.{Formula, Term, Eq, Lt, Le, Same, Both, Either, Not, All as Each, Any, Number, Id, Mark, Num, Degree, Pointed, My, Up, UpWeight, Nb, NbWeight, NbUp, Add, Sum, formula_nesting}
use Rattle.pls_rules.specs.RuleSet.{FormulaFits, IsRule, TermFits}
use Rattle.pls_rule_text.specs.FieldNames.{NamesDiffer, name_at}
use Rattle.pls_rule_text.specs.FormulaText.{FormulaIsWritten, IsFieldName, TermIsWritten, formula_text, term_text}
use Rattle.pls_rule_text.specs.RuleText.{FitsRule, Shallow, formula_with, is_known, place_of_name, rule_refusal, term_with}
use Rattle.pls_rule_text.specs.inner.Places.{is_placed, is_term_placed}
use Rattle.pls_rule_text.specs.laws.AtomLaws.{words}
use Rattle.pls_rule_text.specs.laws.FormulaLaws.{sentence}
use Rattle.pls_rule_text.specs.laws.NameLaws.{other_word}
use Rattle.pls_rule_text.specs.laws.SenseLaws.{height-with, known-placed, nesting-with}

-- the text of an expression by the names of its fields is that of the expression over the names
module _ {F : Type 0} (name : F → List ℕ) where
  mutual
    pub text-with : (formula : Formula F)
        → formula_text name formula ≡ sentence (formula_with name formula)
    text-with (Eq a b) = rw (term_text-with a, term_text-with b) refl
    text-with (Lt a b) = rw (term_text-with a, term_text-with b) refl
    text-with (Le a b) = rw (term_text-with a, term_text-with b) refl
    text-with (Same a b) = rw (text-with a, text-with b) refl
    text-with (Both a b) = rw (text-with a, text-with b) refl
    text-with (Either a b) = rw (text-with a, text-with b) refl
    text-with (Not a) = rw (text-with a) refl
    text-with (Each a) = rw (text-with a) refl
    text-with (Any a) = rw (text-with a) refl

    term_text-with : (term : Term F) → term_text name term ≡ words (term_with name term)
    term_text-with (Number n) = refl
    term_text-with Id = refl
    term_text-with Mark = refl
    term_text-with Num = refl
    term_text-with Degree = refl
    term_text-with Pointed = refl
    term_text-with (My f) = refl
    term_text-with (Up f) = refl
    term_text-with UpWeight = refl
    term_text-with (Nb f) = refl
    term_text-with NbWeight = refl
    term_text-with NbUp = refl
    term_text-with (Add a b) = rw (term_text-with a, term_text-with b) refl
    term_text-with (Sum a b) = rw (text-with a, term_text-with b) refl

-- the place of a name is the number that it has
pub place_at : (names : List (List ℕ)) → NamesDiffer names → (number : ℕ) → number < length names
    → place_of_name names (name_at names number) ≡ number
place_at [] distinct number within = absurd (omega (arith, within))
place_at (first ∷ others) distinct zero within = rw ((bytes_eq-Decides first first).1 refl) refl
place_at (first ∷ others) distinct (suc number) within =
    let later = place_at others (λ i j d less inside. distinct (suc i) (suc j) d (omega (arith, less))
    (omega (arith, inside))) number (omega (arith, within)) in
    let apart = distinct 0 (suc number) [] (omega arith) within in
    rw (other_word first (name_at others number) apart) (omega (arith, later))

-- fields that fit are placed
mutual
  pub fits_placed : (count : ℕ) (inside : Bool) (formula : Formula ℕ) → FormulaFits count inside formula
      → is_placed count inside formula ≡ true
  fits_placed count inside (Eq a b) fits =
      and_from (is_term_placed count inside a) (is_term_placed count inside b)
      (term_fits_placed count inside a fits.0) (term_fits_placed count inside b fits.1)
  fits_placed count inside (Lt a b) fits =
      and_from (is_term_placed count inside a) (is_term_placed count inside b)
      (term_fits_placed count inside a fits.0) (term_fits_placed count inside b fits.1)
  fits_placed count inside (Le a b) fits =
      and_from (is_term_placed count inside a) (is_term_placed count inside b)
      (term_fits_placed count inside a fits.0) (term_fits_placed count inside b fits.1)
  fits_placed count inside (Same a b) fits =
      and_from (is_placed count inside a) (is_placed count inside b)
      (fits_placed count inside a fits.0) (fits_placed count inside b fits.1)
  fits_placed count inside (Both a b) fits =
      and_from (is_placed count inside a) (is_placed count inside b)
      (fits_placed count inside a fits.0) (fits_placed count inside b fits.1)
  fits_placed count inside (Either a b) fits =
      and_from (is_placed count inside a) (is_placed count inside b)
      (fits_placed count inside a fits.0) (fits_placed count inside b fits.1)
  fits_placed count inside (Not a) fits = fits_placed count inside a fits
  fits_placed count inside (Each a) fits = fits_placed count true a fits
  fits_placed count inside (Any a) fits = fits_placed count true a fits

  term_fits_placed : (count : ℕ) (inside : Bool) (term : Term ℕ) → TermFits count inside term
      → is_term_placed count inside term ≡ true
  term_fits_placed count inside (Number n) fits = refl
  term_fits_placed count inside Id fits = refl
  term_fits_placed count inside Mark fits = refl
  term_fits_placed count inside Num fits = refl
  term_fits_placed count inside Degree fits = refl
  term_fits_placed count inside Pointed fits = refl
  term_fits_placed count inside (My f) fits = lt-ltb f count fits
  term_fits_placed count inside (Up f) fits = lt-ltb f count fits
  term_fits_placed count inside UpWeight fits = refl
  term_fits_placed count inside (Nb f) fits =
      and_from inside (nat_lt f count) fits.1 (lt-ltb f count fits.0)
  term_fits_placed count inside NbWeight fits = fits
  term_fits_placed count inside NbUp fits = fits
  term_fits_placed count inside (Add a b) fits =
      and_from (is_term_placed count inside a) (is_term_placed count inside b)
      (term_fits_placed count inside a fits.0) (term_fits_placed count inside b fits.1)
  term_fits_placed count inside (Sum a b) fits =
      and_from (is_placed count true a) (is_term_placed count true b)
      (fits_placed count true a fits.0) (term_fits_placed count true b fits.1)

-- names in the place of numbers can be taken back
module _ (names : List (List ℕ)) (distinct : NamesDiffer names) where
  abbrev again : Formula ℕ → Formula ℕ
  again formula = formula_with (place_of_name names) (formula_with (name_at names) formula)

  abbrev term_again : Term ℕ → Term ℕ
  term_again term = term_with (place_of_name names) (term_with (name_at names) term)

  mutual
    pub named_again : (inside : Bool) (formula : Formula ℕ) → FormulaFits (length names) inside formula
        → again formula ≡ formula
    named_again inside (Eq a b) fits =
        rw (term_named_again inside a fits.0, term_named_again inside b fits.1) refl
    named_again inside (Lt a b) fits =
        rw (term_named_again inside a fits.0, term_named_again inside b fits.1) refl
    named_again inside (Le a b) fits =
        rw (term_named_again inside a fits.0, term_named_again inside b fits.1) refl
    named_again inside (Same a b) fits =
        rw (named_again inside a fits.0, named_again inside b fits.1) refl
    named_again inside (Both a b) fits =
        rw (named_again inside a fits.0, named_again inside b fits.1) refl
    named_again inside (Either a b) fits =
        rw (named_again inside a fits.0, named_again inside b fits.1) refl
    named_again inside (Not a) fits = rw (named_again inside a fits) refl
    named_again inside (Each a) fits = rw (named_again true a fits) refl
    named_again inside (Any a) fits = rw (named_again true a fits) refl

    term_named_again : (inside : Bool) (term : Term ℕ) → TermFits (length names) inside term
        → term_again term ≡ term
    term_named_again inside (Number n) fits = refl
    term_named_again inside Id fits = refl
    term_named_again inside Mark fits = refl
    term_named_again inside Num fits = refl
    term_named_again inside Degree fits = refl
    term_named_again inside Pointed fits = refl
    term_named_again inside (My f) fits = ap My (place_at names distinct f fits)
    term_named_again inside (Up f) fits = ap Up (place_at names distinct f fits)
    term_named_again inside UpWeight fits = refl
    term_named_again inside (Nb f) fits = ap Nb (place_at names distinct f fits.0)
    term_named_again inside NbWeight fits = refl
    term_named_again inside NbUp fits = refl
    term_named_again inside (Add a b) fits =
        rw (term_named_again inside a fits.0, term_named_again inside b fits.1) refl
    term_named_again inside (Sum a b) fits =
        rw (named_again true a fits.0, term_named_again true b fits.1) refl

  -- and all of them are known
  pub named_known : (inside : Bool) (formula : Formula ℕ) → FormulaFits (length names) inside formula
      → is_known names inside (formula_with (name_at names) formula) ≡ true
  named_known inside formula fits =
      sym (known-placed names inside (formula_with (name_at names) formula))
      ∙ ap (is_placed (length names) inside) (named_again inside formula fits)
      ∙ fits_placed (length names) inside formula fits

  -- so a rule that is printed is not refused
  pub named_refusal : (formula : Formula ℕ) → IsRule (length names) formula
      → rule_refusal names (Shallow (formula_with (name_at names) formula)) ≡ None
  named_refusal formula rule =
      rw (nesting-with (name_at names) formula, not_nested, named_known false formula rule.fits) refl
    where
      not_nested : nat_lt 2 (formula_nesting formula) ≡ false
      not_nested = by (nat_lt 2 (formula_nesting formula)) refl
        where
          by : (b : Bool) → nat_lt 2 (formula_nesting formula) ≡ b
              → nat_lt 2 (formula_nesting formula) ≡ false
          by true is = absurd (omega (arith, ltb-true 2 (formula_nesting formula) is, rule.nested))
          by false is = is

-- names of fields can be written
module _ (names : List (List ℕ)) (are : All IsFieldName names) where
  name_is : (number : ℕ) → number < length names → IsFieldName (name_at names number)
  name_is number within = are number [] within

  mutual
    pub named_written : (inside : Bool) (formula : Formula ℕ) → FormulaFits (length names) inside formula
        → FormulaIsWritten (formula_with (name_at names) formula)
    named_written inside (Eq a b) fits =
        (term_named_written inside a fits.0, term_named_written inside b fits.1)
    named_written inside (Lt a b) fits =
        (term_named_written inside a fits.0, term_named_written inside b fits.1)
    named_written inside (Le a b) fits =
        (term_named_written inside a fits.0, term_named_written inside b fits.1)
    named_written inside (Same a b) fits =
        (named_written inside a fits.0, named_written inside b fits.1)
    named_written inside (Both a b) fits =
        (named_written inside a fits.0, named_written inside b fits.1)
    named_written inside (Either a b) fits =
        (named_written inside a fits.0, named_written inside b fits.1)
    named_written inside (Not a) fits = named_written inside a fits
    named_written inside (Each a) fits = named_written true a fits
    named_written inside (Any a) fits = named_written true a fits

    term_named_written : (inside : Bool) (term : Term ℕ) → TermFits (length names) inside term
        → TermIsWritten (term_with (name_at names) term)
    term_named_written inside (Number n) fits = fits
    term_named_written inside Id fits = tt
    term_named_written inside Mark fits = tt
    term_named_written inside Num fits = tt
    term_named_written inside Degree fits = tt
    term_named_written inside Pointed fits = tt
    term_named_written inside (My f) fits = (name_is f fits).name_of
    term_named_written inside (Up f) fits = ((name_is f fits).name_of, (name_is f fits).no_weight)
    term_named_written inside UpWeight fits = tt
    term_named_written inside (Nb f) fits = (
      (name_is f fits.0).name_of,
      (name_is f fits.0).no_weight,
      (name_is f fits.0).no_up,
    )
    term_named_written inside NbWeight fits = tt
    term_named_written inside NbUp fits = tt
    term_named_written inside (Add a b) fits =
        (term_named_written inside a fits.0, term_named_written inside b fits.1)
    term_named_written inside (Sum a b) fits =
        (named_written true a fits.0, term_named_written true b fits.1)

  -- so a rule that is printed in at most 4096 characters is one that may stand in a rule line
  pub named_fits : (formula : Formula ℕ) → IsRule (length names) formula
      → length (formula_text (name_at names) formula) ≤ 4096
      → FitsRule (Shallow (formula_with (name_at names) formula))
  named_fits formula rule few = record {
    writable = named_written false formula rule.fits;
    few = rw (← text-with (name_at names) formula) few;
    shallow = rw (height-with (name_at names) formula) rule.shallow;
  }
