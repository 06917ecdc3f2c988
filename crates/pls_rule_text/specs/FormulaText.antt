-- The texts of expressions, by their writer.
use Rattle.std.specs.Prelude.{◌≢◌, ℕ, ◌≤◌, All, List, ◌++◌, length, codes, decimal}
use Rattle.pls_bits.specs.declared.num_code.TheConstants.{MAX_CODED}
use Rattle.pls_rules.specs.Formula.{Formula, Term, Eq, Lt, Le, Same, Both, Either, Not, All as Each, Any, Number, Id, Mark, Num, Degree, Pointed, My, Up, UpWeight, Nb, NbWeight, NbUp, Add, Sum}

-- what a word opens and `)` closes, with one part
abbrev pub one_text : List ℕ → List ℕ → List ℕ
one_text word inner = word ++ (inner ++ codes ")")

-- what a word opens and `)` closes, with two parts that `,` divides
abbrev pub two_text : List ℕ → List ℕ → List ℕ → List ℕ
two_text word first second = word ++ (first ++ (codes "," ++ (second ++ codes ")")))

module _ {F : Type 0} (name : F → List ℕ) where
  abbrev mutual
    -- the text of a formula whose fields have these names
    pub formula_text : Formula F → List ℕ
    formula_text (Eq a b) = two_text (codes "eq(") (term_text a) (term_text b)
    formula_text (Lt a b) = two_text (codes "lt(") (term_text a) (term_text b)
    formula_text (Le a b) = two_text (codes "le(") (term_text a) (term_text b)
    formula_text (Same a b) = two_text (codes "same(") (formula_text a) (formula_text b)
    formula_text (Both a b) = two_text (codes "both(") (formula_text a) (formula_text b)
    formula_text (Either a b) = two_text (codes "either(") (formula_text a) (formula_text b)
    formula_text (Not a) = one_text (codes "not(") (formula_text a)
    formula_text (Each a) = one_text (codes "all(") (formula_text a)
    formula_text (Any a) = one_text (codes "any(") (formula_text a)

    -- the text of a term whose fields have these names
    pub term_text : Term F → List ℕ
    term_text (Number n) = decimal n
    term_text Id = codes "id"
    term_text Mark = codes "mark"
    term_text Num = codes "num"
    term_text Degree = codes "degree"
    term_text Pointed = codes "pointed"
    term_text (My f) = codes "my." ++ name f
    term_text (Up f) = codes "up." ++ name f
    term_text UpWeight = codes "up.weight"
    term_text (Nb f) = codes "nb." ++ name f
    term_text NbWeight = codes "nb.weight"
    term_text NbUp = codes "nb.up"
    term_text (Add a b) = two_text (codes "add(") (term_text a) (term_text b)
    term_text (Sum a b) = two_text (codes "sum(") (formula_text a) (term_text b)

-- a name has 1 to 16 small letters
pub record IsName (name : List ℕ) : Type 0 where
  pub some : 1 ≤ length name
  pub few : length name ≤ 16
  pub letters : All (λ letter. (97 ≤ letter) × (letter ≤ 122)) name

-- the name of a field, which is none of the words `weight` and `up`
pub record IsFieldName (name : List ℕ) : Type 0 where
  pub name_of : IsName name
  pub no_weight : name ≢ codes "weight"
  pub no_up : name ≢ codes "up"

abbrev mutual
  -- a formula whose fields stand by their names is one of the grammar: each term in it is
  pub FormulaIsWritten : Formula (List ℕ) → Type 0
  FormulaIsWritten (Eq a b) = TermIsWritten a × TermIsWritten b
  FormulaIsWritten (Lt a b) = TermIsWritten a × TermIsWritten b
  FormulaIsWritten (Le a b) = TermIsWritten a × TermIsWritten b
  FormulaIsWritten (Same a b) = FormulaIsWritten a × FormulaIsWritten b
  FormulaIsWritten (Both a b) = FormulaIsWritten a × FormulaIsWritten b
  FormulaIsWritten (Either a b) = FormulaIsWritten a × FormulaIsWritten b
  FormulaIsWritten (Not a) = FormulaIsWritten a
  FormulaIsWritten (Each a) = FormulaIsWritten a
  FormulaIsWritten (Any a) = FormulaIsWritten a

  -- a term whose fields stand by their names is one of the grammar: its numbers are at most
  -- 2^63 - 2, and `up.weight`, `nb.weight` and `nb.up`, which are told of ports, name no field
  pub TermIsWritten : Term (List ℕ) → Type 0
  TermIsWritten (Number n) = n ≤ MAX_CODED
  TermIsWritten Id = Unit {0}
  TermIsWritten Mark = Unit {0}
  TermIsWritten Num = Unit {0}
  TermIsWritten Degree = Unit {0}
  TermIsWritten Pointed = Unit {0}
  TermIsWritten (My f) = IsName f
  TermIsWritten (Up f) = IsName f × (f ≢ codes "weight")
  TermIsWritten UpWeight = Unit {0}
  TermIsWritten (Nb f) = IsName f × (f ≢ codes "weight") × (f ≢ codes "up")
  TermIsWritten NbWeight = Unit {0}
  TermIsWritten NbUp = Unit {0}
  TermIsWritten (Add a b) = TermIsWritten a × TermIsWritten b
  TermIsWritten (Sum a b) = FormulaIsWritten a × TermIsWritten b
