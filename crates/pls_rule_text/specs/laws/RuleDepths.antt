-- Parentheses stand as deep in the text of a formula as it is high.
use Rattle.std.proofs.Common.{◌≡◌, ◌∙◌, ℕ, ◌++◌, List, [], codes, decimal, refl, sym, ap, arith}
use Rattle.std.specs.Char.{is_ascii_digit}
use Rattle.std.proofs.lemmas.List.{append-nil}
use Rattle.pls_fronts.specs.Depth.{deepest}
use Rattle.pls_fronts.specs.LetterFront.{is_letter}
use Rattle.pls_fronts.specs.laws.DepthLaws.{MakesDeep, all_plain, deep_one, deep_two, deep_word, opens_behind, plain_digit, plain_letter}
use Rattle.pls_fronts.specs.laws.NumberFrontLaws.{decimal_digits}
use Rattle.pls_rules.specs.Formula.{Formula, Term, Eq, Lt, Le, Same, Both, Either, Not, All, Any, Number, Id, Mark, Num, Degree, Pointed, My, Up, UpWeight, Nb, NbWeight, NbUp, Add, Sum, formula_height, term_height}
use Rattle.pls_rule_text.specs.FormulaText.{FormulaIsWritten, TermIsWritten}
use Rattle.pls_rule_text.specs.laws.AtomLaws.{words}
use Rattle.pls_rule_text.specs.laws.NameLaws.{all_letters}
use Rattle.pls_rule_text.specs.laws.FormulaLaws.{sentence}

mutual
  formula_deep : (formula : Formula (List ℕ)) → FormulaIsWritten formula
      → MakesDeep (sentence formula) (formula_height formula)
  formula_deep (Eq a b) fits =
      deep_two (codes "eq(") (opens_behind (codes "eq") refl) (words a) (words b) (term_height a)
      (term_height b) (term_deep a fits.0) (term_deep b fits.1)
  formula_deep (Lt a b) fits =
      deep_two (codes "lt(") (opens_behind (codes "lt") refl) (words a) (words b) (term_height a)
      (term_height b) (term_deep a fits.0) (term_deep b fits.1)
  formula_deep (Le a b) fits =
      deep_two (codes "le(") (opens_behind (codes "le") refl) (words a) (words b) (term_height a)
      (term_height b) (term_deep a fits.0) (term_deep b fits.1)
  formula_deep (Same a b) fits =
      deep_two (codes "same(") (opens_behind (codes "same") refl) (sentence a) (sentence b)
      (formula_height a) (formula_height b) (formula_deep a fits.0) (formula_deep b fits.1)
  formula_deep (Both a b) fits =
      deep_two (codes "both(") (opens_behind (codes "both") refl) (sentence a) (sentence b)
      (formula_height a) (formula_height b) (formula_deep a fits.0) (formula_deep b fits.1)
  formula_deep (Either a b) fits =
      deep_two (codes "either(") (opens_behind (codes "either") refl) (sentence a) (sentence b)
      (formula_height a) (formula_height b) (formula_deep a fits.0) (formula_deep b fits.1)
  formula_deep (Not a) fits =
      deep_one (codes "not(") (opens_behind (codes "not") refl) (sentence a) (formula_height a)
      (formula_deep a fits)
  formula_deep (All a) fits =
      deep_one (codes "all(") (opens_behind (codes "all") refl) (sentence a) (formula_height a)
      (formula_deep a fits)
  formula_deep (Any a) fits =
      deep_one (codes "any(") (opens_behind (codes "any") refl) (sentence a) (formula_height a)
      (formula_deep a fits)

  term_deep : (term : Term (List ℕ)) → TermIsWritten term → MakesDeep (words term) (term_height term)
  term_deep (Number n) fits =
      deep_word (decimal n)
      (all_plain is_ascii_digit plain_digit (decimal n) (decimal_digits n (omega (arith, fits))))
  term_deep Id fits = deep_word (codes "id") refl
  term_deep Mark fits = deep_word (codes "mark") refl
  term_deep Num fits = deep_word (codes "num") refl
  term_deep Degree fits = deep_word (codes "degree") refl
  term_deep Pointed fits = deep_word (codes "pointed") refl
  term_deep (My f) fits =
      deep_word (codes "my." ++ f) (all_plain is_letter plain_letter f (all_letters f fits.letters))
  term_deep (Up f) fits =
      deep_word (codes "up." ++ f) (all_plain is_letter plain_letter f (all_letters f fits.0.letters))
  term_deep UpWeight fits = deep_word (codes "up.weight") refl
  term_deep (Nb f) fits =
      deep_word (codes "nb." ++ f) (all_plain is_letter plain_letter f (all_letters f fits.0.letters))
  term_deep NbWeight fits = deep_word (codes "nb.weight") refl
  term_deep NbUp fits = deep_word (codes "nb.up") refl
  term_deep (Add a b) fits =
      deep_two (codes "add(") (opens_behind (codes "add") refl) (words a) (words b) (term_height a)
      (term_height b) (term_deep a fits.0) (term_deep b fits.1)
  term_deep (Sum a b) fits =
      deep_two (codes "sum(") (opens_behind (codes "sum") refl) (sentence a) (words b)
      (formula_height a) (term_height b) (formula_deep a fits.0) (term_deep b fits.1)

pub deepest-sentence : (formula : Formula (List ℕ)) → FormulaIsWritten formula
    → deepest 0 (sentence formula) ≡ formula_height formula
deepest-sentence formula fits =
    ap (deepest 0) (sym (append-nil (sentence formula))) ∙ (omega (arith, formula_deep formula fits 0 []))
