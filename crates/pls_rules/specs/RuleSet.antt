-- Rule sets: the fields of a label, and the rules from 3 on.
use Rattle.std.specs.Prelude.{◌≡◌, ℕ, ◌<◌, ◌≤◌, Bool, true, false, List, length, map, All}
use Rattle.pls_bits.specs.declared.num_code.TheConstants.{MAX_CODED}
use Rattle.pls_numbers.specs.declared.kind.FieldKind.{FieldKind}
use Rattle.pls_rules.specs.declared.field.Field.{Field}
use Rattle.pls_rules.specs.Formula.{Formula, Term, Eq, Lt, Le, Same, Both, Either, Not, All as Each, Any, Number, Id, Mark, Num, Degree, Pointed, My, Up, UpWeight, Nb, NbWeight, NbUp, Add, Sum, formula_height, formula_nesting}

-- a rule set: the fields of each label in their order, and the formulas that each node asks, of
-- which the first is rule 3; 1 and 2 ask that labels can be read
pub record Rules : Type 0 where
  pub fields : List Field
  pub rules : List (Formula ℕ)

-- the set of these fields and rules
abbrev pub rules_of : List Field → List (Formula ℕ) → Rules
rules_of fields rules = record { fields = fields; rules = rules }

-- how the fields of a label are written
abbrev pub kinds_of : List Field → List FieldKind
kinds_of fields = map (λ field. field.kind) fields

abbrev mutual
  -- the numbers of a formula are small enough, its fields are among so many, and what is asked of a
  -- neighbour stands inside a quantifier, or `inside` says that it may stand here
  pub FormulaFits : ℕ → Bool → Formula ℕ → Type 0
  FormulaFits count inside (Eq a b) = TermFits count inside a × TermFits count inside b
  FormulaFits count inside (Lt a b) = TermFits count inside a × TermFits count inside b
  FormulaFits count inside (Le a b) = TermFits count inside a × TermFits count inside b
  FormulaFits count inside (Same a b) = FormulaFits count inside a × FormulaFits count inside b
  FormulaFits count inside (Both a b) = FormulaFits count inside a × FormulaFits count inside b
  FormulaFits count inside (Either a b) = FormulaFits count inside a × FormulaFits count inside b
  FormulaFits count inside (Not a) = FormulaFits count inside a
  FormulaFits count inside (Each a) = FormulaFits count true a
  FormulaFits count inside (Any a) = FormulaFits count true a

  -- the numbers of a term are small enough, its fields are among so many, and what is asked of a
  -- neighbour stands inside a quantifier, or `inside` says that it may stand here
  pub TermFits : ℕ → Bool → Term ℕ → Type 0
  TermFits count inside (Number n) = n ≤ MAX_CODED
  TermFits count inside Id = Unit {0}
  TermFits count inside Mark = Unit {0}
  TermFits count inside Num = Unit {0}
  TermFits count inside Degree = Unit {0}
  TermFits count inside Pointed = Unit {0}
  TermFits count inside (My f) = f < count
  TermFits count inside (Up f) = f < count
  TermFits count inside UpWeight = Unit {0}
  TermFits count inside (Nb f) = (f < count) × (inside ≡ true)
  TermFits count inside NbWeight = inside ≡ true
  TermFits count inside NbUp = inside ≡ true
  TermFits count inside (Add a b) = TermFits count inside a × TermFits count inside b
  TermFits count inside (Sum a b) = FormulaFits count true a × TermFits count true b

-- a rule over so many fields: parentheses stand at most 31 deep, and quantifiers at most 2 inside
-- one another
pub record IsRule (count : ℕ) (rule : Formula ℕ) : Type 0 where
  pub fits : FormulaFits count false rule
  pub shallow : formula_height rule ≤ 31
  pub nested : formula_nesting rule ≤ 2

-- the rules are over the fields; there are at most 8 fields and 32 rules
pub record AreRules (set : Rules) : Type 0 where
  pub fields : length set.fields ≤ 8
  pub rules : length set.rules ≤ 32
  pub each : All (IsRule (length set.fields)) set.rules
