-- Expressions are read where their texts stand.
use Rattle.std.proofs.Common.{◌≡◌, ◌∙◌, ℕ, zero, suc, ◌≤◌, ◌++◌, List, codes, Some, None, refl, ap, arith}
use Rattle.std.specs.Fmt.{digits}
use Rattle.pls_fronts.specs.Front.{followed}
use Rattle.pls_fronts.specs.LetterFront.{letters_ahead}
use Rattle.pls_fronts.specs.NumberFront.{digits_ahead}
use Rattle.pls_rules.specs.Formula.{Formula, Term, Eq, Lt, Le, Same, Both, Either, Not, All, Any, Number, Id, Mark, Num, Degree, Pointed, My, Up, UpWeight, Nb, NbWeight, NbUp, Add, Sum, formula_height, term_height}
use Rattle.pls_rule_text.specs.FormulaText.{FormulaIsWritten, TermIsWritten}
use Rattle.pls_rule_text.specs.declared.openings.Comparison.{Comparison}
use Rattle.pls_rule_text.specs.declared.openings.Comparison.TheVariants.{Equal, Less, AtMost}
use Rattle.pls_rule_text.specs.declared.openings.Junction.{Junction}
use Rattle.pls_rule_text.specs.declared.openings.Junction.TheVariants.{Same as BySame, Both as ByBoth, Either as ByEither}
use Rattle.pls_rule_text.specs.declared.openings.Modifier.{Modifier}
use Rattle.pls_rule_text.specs.declared.openings.Modifier.TheVariants.{Not as ByNot, All as ByAll, Any as ByAny}
use Rattle.pls_rule_text.specs.inner.Atoms.{atom_front}
use Rattle.pls_rule_text.specs.inner.Fronts.{formula_front, term_front}
use Rattle.pls_rule_text.specs.inner.Openings.{comparison_of, comparison_word, junction_of, junction_word, modifier_of, modifier_word}
use Rattle.pls_rule_text.specs.laws.AtomLaws.{IsAtom, atom_read, words}
use Rattle.pls_rule_text.specs.laws.FormulaLaws.{FormulaIn, TermIn, comparison_text, junction_text, modifier_text, sentence}
use Rattle.pls_rule_text.specs.laws.OpeningLaws.{comparison_read, junction_compares, junction_read, modifier_compares, modifier_joins, modifier_read}
use Rattle.pls_rule_text.specs.laws.PartLaws.{one_onto, one_read, two_onto, two_read}

-- a formula in front is read, and a term behind which neither a letter nor a digit stands
abbrev IsFormulaRead : ℕ → Formula (List ℕ) → Type 0
IsFormulaRead below formula =
    (rest : List ℕ) → formula_front below (sentence formula ++ rest) ≡ Some (followed formula rest)

abbrev IsTermRead : ℕ → Term (List ℕ) → Type 0
IsTermRead below term = (rest : List ℕ) → letters_ahead rest ≡ 0 → digits_ahead rest ≡ 0
    → term_front below (words term ++ rest) ≡ Some (followed term rest)

-- what stands behind parts
abbrev comma_onto : List ℕ → List ℕ → List ℕ
comma_onto second rest = codes "," ++ (second ++ (codes ")" ++ rest))

comparison_formula_read : (below : ℕ) (by : Comparison) (a b : Term (List ℕ)) → IsTermRead below a
    → IsTermRead below b → IsFormulaRead (suc below) (comparison_of by a b)
unfolding formula_front
comparison_formula_read below by a b one two rest =
    let behind = words a ++ comma_onto (words b) rest in
    ap (λ (t : List ℕ). formula_front (suc below) (t ++ rest)) (comparison_text by a b)
    ∙ ap (formula_front (suc below)) (two_onto (comparison_word by) (words a) (words b) rest)
    ∙ rw (comparison_read by behind)
    (two_read words words (TermIn below) (TermIn below) (term_front below) (term_front below)
    (comparison_of by) a b rest (one (comma_onto (words b) rest) refl refl) (two (codes ")" ++ rest) refl refl))

junction_formula_read : (below : ℕ) (by : Junction) (a b : Formula (List ℕ)) → IsFormulaRead below a
    → IsFormulaRead below b → IsFormulaRead (suc below) (junction_of by a b)
unfolding formula_front
junction_formula_read below by a b one two rest =
    let behind = sentence a ++ comma_onto (sentence b) rest in
    ap (λ (t : List ℕ). formula_front (suc below) (t ++ rest)) (junction_text by a b)
    ∙ ap (formula_front (suc below)) (two_onto (junction_word by) (sentence a) (sentence b) rest)
    ∙ rw (junction_compares by behind, junction_read by behind)
    (two_read sentence sentence (FormulaIn below) (FormulaIn below) (formula_front below)
    (formula_front below) (junction_of by) a b rest (one (comma_onto (sentence b) rest))
    (two (codes ")" ++ rest)))

modifier_formula_read : (below : ℕ) (by : Modifier) (a : Formula (List ℕ)) → IsFormulaRead below a
    → IsFormulaRead (suc below) (modifier_of by a)
unfolding formula_front
modifier_formula_read below by a one rest =
    let behind = sentence a ++ (codes ")" ++ rest) in
    ap (λ (t : List ℕ). formula_front (suc below) (t ++ rest)) (modifier_text by a)
    ∙ ap (formula_front (suc below)) (one_onto (modifier_word by) (sentence a) rest)
    ∙ rw (modifier_compares by behind, modifier_joins by behind, modifier_read by behind)
    (one_read sentence (FormulaIn below) (formula_front below) (modifier_of by) a rest
    (one (codes ")" ++ rest)))

-- no term without parts begins as a sum does
no_sum : (behind : List ℕ) → atom_front (codes "add(" ++ behind) ≡ None
unfolding atom_front digits
no_sum behind = refl

no_port_sum : (behind : List ℕ) → atom_front (codes "sum(" ++ behind) ≡ None
unfolding atom_front digits
no_port_sum behind = refl

sum_read : (below : ℕ) (a b : Term (List ℕ)) → IsTermRead below a → IsTermRead below b
    → IsTermRead (suc below) (Add a b)
unfolding formula_front
sum_read below a b one two rest letters digits =
    let behind = words a ++ comma_onto (words b) rest in
    ap (term_front (suc below)) (two_onto (codes "add(") (words a) (words b) rest)
    ∙ rw (no_sum behind)
    (two_read words words (TermIn below) (TermIn below) (term_front below) (term_front below) Add a b
    rest (one (comma_onto (words b) rest) refl refl) (two (codes ")" ++ rest) refl refl))

port_sum_read : (below : ℕ) (a : Formula (List ℕ)) (b : Term (List ℕ)) → IsFormulaRead below a
    → IsTermRead below b → IsTermRead (suc below) (Sum a b)
unfolding formula_front
port_sum_read below a b one two rest letters digits =
    let behind = sentence a ++ comma_onto (words b) rest in
    ap (term_front (suc below)) (two_onto (codes "sum(") (sentence a) (words b) rest)
    ∙ rw (no_port_sum behind)
    (two_read sentence words (FormulaIn below) (TermIn below) (formula_front below) (term_front below)
    Sum a b rest (one (comma_onto (words b) rest)) (two (codes ")" ++ rest) refl refl))

-- a term without parts is read at each level
atom_read_at : (below : ℕ) (term : Term (List ℕ)) → IsAtom term → IsTermRead below term
unfolding formula_front
atom_read_at zero term atom rest letters digits = atom_read term atom rest letters digits
atom_read_at (suc below) term atom rest letters digits =
    rw (atom_read term atom rest letters digits) refl

mutual
  pub formula_read : (formula : Formula (List ℕ)) (below : ℕ) → FormulaIsWritten formula
      → formula_height formula ≤ below → IsFormulaRead below formula
  formula_read (Eq a b) zero fits shallow = absurd (omega (arith, shallow))
  formula_read (Lt a b) zero fits shallow = absurd (omega (arith, shallow))
  formula_read (Le a b) zero fits shallow = absurd (omega (arith, shallow))
  formula_read (Same a b) zero fits shallow = absurd (omega (arith, shallow))
  formula_read (Both a b) zero fits shallow = absurd (omega (arith, shallow))
  formula_read (Either a b) zero fits shallow = absurd (omega (arith, shallow))
  formula_read (Not a) zero fits shallow = absurd (omega (arith, shallow))
  formula_read (All a) zero fits shallow = absurd (omega (arith, shallow))
  formula_read (Any a) zero fits shallow = absurd (omega (arith, shallow))
  formula_read (Eq a b) (suc below) fits shallow =
      comparison_formula_read below Equal a b (term_read a below fits.0 (omega (arith, shallow)))
      (term_read b below fits.1 (omega (arith, shallow)))
  formula_read (Lt a b) (suc below) fits shallow =
      comparison_formula_read below Less a b (term_read a below fits.0 (omega (arith, shallow)))
      (term_read b below fits.1 (omega (arith, shallow)))
  formula_read (Le a b) (suc below) fits shallow =
      comparison_formula_read below AtMost a b (term_read a below fits.0 (omega (arith, shallow)))
      (term_read b below fits.1 (omega (arith, shallow)))
  formula_read (Same a b) (suc below) fits shallow =
      junction_formula_read below BySame a b (formula_read a below fits.0 (omega (arith, shallow)))
      (formula_read b below fits.1 (omega (arith, shallow)))
  formula_read (Both a b) (suc below) fits shallow =
      junction_formula_read below ByBoth a b (formula_read a below fits.0 (omega (arith, shallow)))
      (formula_read b below fits.1 (omega (arith, shallow)))
  formula_read (Either a b) (suc below) fits shallow =
      junction_formula_read below ByEither a b (formula_read a below fits.0 (omega (arith, shallow)))
      (formula_read b below fits.1 (omega (arith, shallow)))
  formula_read (Not a) (suc below) fits shallow =
      modifier_formula_read below ByNot a (formula_read a below fits (omega (arith, shallow)))
  formula_read (All a) (suc below) fits shallow =
      modifier_formula_read below ByAll a (formula_read a below fits (omega (arith, shallow)))
  formula_read (Any a) (suc below) fits shallow =
      modifier_formula_read below ByAny a (formula_read a below fits (omega (arith, shallow)))

  pub term_read : (term : Term (List ℕ)) (below : ℕ) → TermIsWritten term → term_height term ≤ below
      → IsTermRead below term
  term_read (Number n) below fits shallow = atom_read_at below (Number n) (fits, omega arith)
  term_read Id below fits shallow = atom_read_at below Id (fits, omega arith)
  term_read Mark below fits shallow = atom_read_at below Mark (fits, omega arith)
  term_read Num below fits shallow = atom_read_at below Num (fits, omega arith)
  term_read Degree below fits shallow = atom_read_at below Degree (fits, omega arith)
  term_read Pointed below fits shallow = atom_read_at below Pointed (fits, omega arith)
  term_read (My f) below fits shallow = atom_read_at below (My f) (fits, omega arith)
  term_read (Up f) below fits shallow = atom_read_at below (Up f) (fits, omega arith)
  term_read UpWeight below fits shallow = atom_read_at below UpWeight (fits, omega arith)
  term_read (Nb f) below fits shallow = atom_read_at below (Nb f) (fits, omega arith)
  term_read NbWeight below fits shallow = atom_read_at below NbWeight (fits, omega arith)
  term_read NbUp below fits shallow = atom_read_at below NbUp (fits, omega arith)
  term_read (Add a b) zero fits shallow = absurd (omega (arith, shallow))
  term_read (Sum a b) zero fits shallow = absurd (omega (arith, shallow))
  term_read (Add a b) (suc below) fits shallow =
      sum_read below a b (term_read a below fits.0 (omega (arith, shallow)))
      (term_read b below fits.1 (omega (arith, shallow)))
  term_read (Sum a b) (suc below) fits shallow =
      port_sum_read below a b (formula_read a below fits.0 (omega (arith, shallow)))
      (term_read b below fits.1 (omega (arith, shallow)))
