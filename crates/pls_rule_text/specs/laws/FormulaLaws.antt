-- Expressions are read where their texts stand, and nowhere else.
use Rattle.std.proofs.Common.{◌≡◌, ◌∙◌, ℕ, zero, suc, ◌≤◌, ◌++◌, List, codes, Option, Some, refl, sym, ap, arith}
use Rattle.std.proofs.lemmas.Option.{option_and_then_some}
use Rattle.pls_fronts.specs.Front.{Front, after}
use Rattle.pls_fronts.specs.laws.FrontLaws.{after_is}
use Rattle.pls_rules.specs.Formula.{Formula, Term, Add, Sum, formula_height, term_height}
use Rattle.pls_rule_text.specs.FormulaText.{FormulaIsWritten, TermIsWritten, formula_text, one_text, two_text}
use Rattle.pls_rule_text.specs.declared.openings.Comparison.{Comparison}
use Rattle.pls_rule_text.specs.declared.openings.Comparison.TheVariants.{Equal, Less, AtMost}
use Rattle.pls_rule_text.specs.declared.openings.Junction.{Junction}
use Rattle.pls_rule_text.specs.declared.openings.Junction.TheVariants.{Same as BySame, Both as ByBoth, Either as ByEither}
use Rattle.pls_rule_text.specs.declared.openings.Modifier.{Modifier}
use Rattle.pls_rule_text.specs.declared.openings.Modifier.TheVariants.{Not as ByNot, All as ByAll, Any as ByAny}
use Rattle.pls_rule_text.specs.inner.Atoms.{atom_front}
use Rattle.pls_rule_text.specs.inner.Fronts.{behind_comparison, behind_junction, behind_modifier, formula_front, term_front}
use Rattle.pls_rule_text.specs.inner.Openings.{comparison_of, comparison_front, comparison_word, junction_of, junction_front, junction_word, modifier_of, modifier_front, modifier_word}
use Rattle.pls_rule_text.specs.inner.Parts.{two_front}
use Rattle.pls_rule_text.specs.laws.AtomLaws.{atom_is, words}
use Rattle.pls_rule_text.specs.laws.OpeningLaws.{comparison_is, junction_is, modifier_is}
use Rattle.pls_rule_text.specs.laws.PartLaws.{HasOne, HasTwo, ReadsOnly, Stands, first_made, first_of, one_is, one_onto, stands_as, two_is, two_onto}

-- the text of a formula whose fields stand by their names
abbrev pub sentence : Formula (List ℕ) → List ℕ
sentence formula = formula_text (λ name. name) formula

-- it can be written, and has at most so many levels
abbrev pub FormulaIn : ℕ → Formula (List ℕ) → Type 0
FormulaIn below formula = FormulaIsWritten formula × (formula_height formula ≤ below)

abbrev pub TermIn : ℕ → Term (List ℕ) → Type 0
TermIn below term = TermIsWritten term × (term_height term ≤ below)

-- what an opening makes of parts that can be written
pub comparison_text : (by : Comparison) (a b : Term (List ℕ))
    → sentence (comparison_of by a b) ≡ two_text (comparison_word by) (words a) (words b)
comparison_text Equal a b = refl
comparison_text Less a b = refl
comparison_text AtMost a b = refl

comparison_fits : (below : ℕ) (by : Comparison) (a b : Term (List ℕ)) → TermIn below a → TermIn below b
    → FormulaIn (suc below) (comparison_of by a b)
comparison_fits below Equal a b one two = ((one.0, two.0), omega (arith, one.1, two.1))
comparison_fits below Less a b one two = ((one.0, two.0), omega (arith, one.1, two.1))
comparison_fits below AtMost a b one two = ((one.0, two.0), omega (arith, one.1, two.1))

pub junction_text : (by : Junction) (a b : Formula (List ℕ))
    → sentence (junction_of by a b) ≡ two_text (junction_word by) (sentence a) (sentence b)
junction_text BySame a b = refl
junction_text ByBoth a b = refl
junction_text ByEither a b = refl

junction_fits : (below : ℕ) (by : Junction) (a b : Formula (List ℕ)) → FormulaIn below a
    → FormulaIn below b → FormulaIn (suc below) (junction_of by a b)
junction_fits below BySame a b one two = ((one.0, two.0), omega (arith, one.1, two.1))
junction_fits below ByBoth a b one two = ((one.0, two.0), omega (arith, one.1, two.1))
junction_fits below ByEither a b one two = ((one.0, two.0), omega (arith, one.1, two.1))

pub modifier_text : (by : Modifier) (a : Formula (List ℕ))
    → sentence (modifier_of by a) ≡ one_text (modifier_word by) (sentence a)
modifier_text ByNot a = refl
modifier_text ByAll a = refl
modifier_text ByAny a = refl

modifier_fits : (below : ℕ) (by : Modifier) (a : Formula (List ℕ)) → FormulaIn below a
    → FormulaIn (suc below) (modifier_of by a)
modifier_fits below ByNot a one = (one.0, omega (arith, one.1))
modifier_fits below ByAll a one = (one.0, omega (arith, one.1))
modifier_fits below ByAny a one = (one.0, omega (arith, one.1))

-- two parts that were found behind a word are one that stands in front
from_two : {A B C : Type 0} (text_a : A → List ℕ) (text_b : B → List ℕ) (FitsA : A → Type 0)
    (FitsB : B → Type 0) (one : List ℕ → Option (Front A)) (other : List ℕ → Option (Front B))
    (of : A → B → C) (word : List ℕ) (text_c : C → List ℕ) (FitsC : C → Type 0)
    → ((a : A) (b : B) → text_c (of a b) ≡ two_text word (text_a a) (text_b b))
    → ((a : A) (b : B) → FitsA a → FitsB b → FitsC (of a b))
    → (text behind : List ℕ) (found : Front C) → text ≡ word ++ behind
    → HasTwo text_a text_b FitsA FitsB one other of behind found → Stands text_c FitsC text found
from_two text_a text_b FitsA FitsB one other of word text_c FitsC written fits text behind found opens
    two =
    stands_as text_c FitsC text found (of two.first two.second) two.item
    (opens ∙ ap (λ (t : List ℕ). word ++ t) two.written
    ∙ sym (two_onto word (text_a two.first) (text_b two.second) found.rest)
    ∙ ap (λ (t : List ℕ). t ++ found.rest) (sym (written two.first two.second)))
    (fits two.first two.second two.fits_first two.fits_second)

from_one : {A C : Type 0} (text_a : A → List ℕ) (FitsA : A → Type 0)
    (part : List ℕ → Option (Front A)) (of : A → C) (word : List ℕ) (text_c : C → List ℕ)
    (FitsC : C → Type 0) → ((a : A) → text_c (of a) ≡ one_text word (text_a a))
    → ((a : A) → FitsA a → FitsC (of a)) → (text behind : List ℕ) (found : Front C)
    → text ≡ word ++ behind → HasOne text_a FitsA part of behind found
    → Stands text_c FitsC text found
from_one text_a FitsA part of word text_c FitsC written fits text behind found opens one =
    stands_as text_c FitsC text found (of one.inner) one.item
    (opens ∙ ap (λ (t : List ℕ). word ++ t) one.written
    ∙ sym (one_onto word (text_a one.inner) found.rest)
    ∙ ap (λ (t : List ℕ). t ++ found.rest) (sym (written one.inner)))
    (fits one.inner one.fits)

-- so an expression that is found stands in front, where its parts do
module _ (below : ℕ) (terms : ReadsOnly words (TermIn below) (term_front below)) where
  comparison_stands : (text : List ℕ) (opened : Front Comparison) (found : Front (Formula (List ℕ)))
      → comparison_front text ≡ Some opened
      → behind_comparison (term_front below) opened ≡ Some found
      → Stands sentence (FormulaIn (suc below)) text found
  comparison_stands text opened found opens is =
      from_two words words (TermIn below) (TermIn below) (term_front below) (term_front below)
      (comparison_of opened.item) (comparison_word opened.item) sentence (FormulaIn (suc below))
      (comparison_text opened.item) (comparison_fits below opened.item) text opened.rest found
      (comparison_is text opened opens)
      (two_is words words (TermIn below) (TermIn below) (term_front below) (term_front below) terms terms
      (comparison_of opened.item) opened.rest found is)

  sum_stands : (text rest : List ℕ) (found : Front (Term (List ℕ)))
      → after (codes "add(") text ≡ Some rest
      → two_front Add (term_front below) (term_front below) rest ≡ Some found
      → Stands words (TermIn (suc below)) text found
  sum_stands text rest found opens is =
      from_two words words (TermIn below) (TermIn below) (term_front below) (term_front below) Add
      (codes "add(") words (TermIn (suc below)) (λ a b. refl)
      (λ a b one two. ((one.0, two.0), omega (arith, one.1, two.1))) text rest found
      (after_is (codes "add(") text rest opens)
      (two_is words words (TermIn below) (TermIn below) (term_front below) (term_front below) terms terms
      Add rest found is)

module _ (below : ℕ) (formulas : ReadsOnly sentence (FormulaIn below) (formula_front below)) where
  junction_stands : (text : List ℕ) (opened : Front Junction) (found : Front (Formula (List ℕ)))
      → junction_front text ≡ Some opened
      → behind_junction (formula_front below) opened ≡ Some found
      → Stands sentence (FormulaIn (suc below)) text found
  junction_stands text opened found opens is =
      from_two sentence sentence (FormulaIn below) (FormulaIn below) (formula_front below)
      (formula_front below) (junction_of opened.item) (junction_word opened.item) sentence
      (FormulaIn (suc below)) (junction_text opened.item) (junction_fits below opened.item) text opened.rest
      found (junction_is text opened opens)
      (two_is sentence sentence (FormulaIn below) (FormulaIn below) (formula_front below)
      (formula_front below) formulas formulas (junction_of opened.item) opened.rest found is)

  modifier_stands : (text : List ℕ) (opened : Front Modifier) (found : Front (Formula (List ℕ)))
      → modifier_front text ≡ Some opened
      → behind_modifier (formula_front below) opened ≡ Some found
      → Stands sentence (FormulaIn (suc below)) text found
  modifier_stands text opened found opens is =
      from_one sentence (FormulaIn below) (formula_front below) (modifier_of opened.item)
      (modifier_word opened.item) sentence (FormulaIn (suc below)) (modifier_text opened.item)
      (modifier_fits below opened.item) text opened.rest found (modifier_is text opened opens)
      (one_is sentence (FormulaIn below) (formula_front below) formulas (modifier_of opened.item)
      opened.rest found is)

  port_sum_stands : ReadsOnly words (TermIn below) (term_front below) → (text rest : List ℕ)
      (found : Front (Term (List ℕ))) → after (codes "sum(") text ≡ Some rest
      → two_front Sum (formula_front below) (term_front below) rest ≡ Some found
      → Stands words (TermIn (suc below)) text found
  port_sum_stands terms text rest found opens is =
      from_two sentence words (FormulaIn below) (TermIn below) (formula_front below) (term_front below)
      Sum (codes "sum(") words (TermIn (suc below)) (λ a b. refl)
      (λ a b one two. ((one.0, two.0), omega (arith, one.1, two.1))) text rest found
      (after_is (codes "sum(") text rest opens)
      (two_is sentence words (FormulaIn below) (TermIn below) (formula_front below) (term_front below)
      formulas terms Sum rest found is)

-- more levels may hold it too
deeper : (below : ℕ) (text : List ℕ) (found : Front (Term (List ℕ)))
    → Stands words (TermIn 0) text found → Stands words (TermIn (suc below)) text found
deeper below text found one =
    record { written = one.written; fits = (one.fits.0, omega (arith, one.fits.1)) }

mutual
  unfolding formula_front

  pub formula_is : (below : ℕ) → ReadsOnly sentence (FormulaIn below) (formula_front below)
  formula_is zero text found is = absurd (cc)
  formula_is (suc below) text found is =
      first_made _ (comparison_front text) _ found
      (λ opened opens here. comparison_stands below (term_is below) text opened found opens here)
      (first_made _ (junction_front text) _ found
      (λ opened opens here. junction_stands below (formula_is below) text opened found opens here)
      (λ last. option_and_then_some (behind_modifier (formula_front below)) (modifier_front text) found
      last
      (λ opened opens here. modifier_stands below (formula_is below) text opened found opens here)))
      is

  pub term_is : (below : ℕ) → ReadsOnly words (TermIn below) (term_front below)
  term_is zero text found is = atom_is text found is
  term_is (suc below) text found is =
      first_of (atom_front text) _ found (λ here. deeper below text found (atom_is text found here))
      (first_made _ (after (codes "add(") text) _ found
      (λ rest opens here. sum_stands below (term_is below) text rest found opens here)
      (λ last. option_and_then_some (two_front Sum (formula_front below) (term_front below))
      (after (codes "sum(") text) found last
      (λ rest opens here. port_sum_stands below (formula_is below) (term_is below) text rest found opens
      here)))
      is
