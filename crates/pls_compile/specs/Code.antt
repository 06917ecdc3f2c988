-- The code of a rule set.
use Rattle.std.specs.Prelude.{ℕ, ◌+◌, List, [], ◌∷◌, ◌++◌}
use Rattle.pls_rules.specs.Formula.{Formula, Term, Eq, Lt, Le, Same, Both, Either, Not, All, Any, Number, Id, Mark, Num, Degree, Pointed, My, Up, UpWeight, Nb, NbWeight, NbUp, Add, Sum}
use Rattle.pls_compile.specs.declared.instr.Instr.{Instr}
use Rattle.pls_compile.specs.declared.instr.Instr.TheVariants.{Push, Id as id, Mark as mark, Num as num, Degree as degree, Pointed as pointed, My as my, Up as up, Nb as nb, UpWeight as up_weight, NbWeight as nb_weight, NbUp as nb_up, Add as add, Mask as mask, Eq as eq, Lt as lt, Le as le, Not as negate, Both as both, Either as either, Begin as begin, More as more, Next as next, Rule as rule, Accept as accept}

abbrev mutual
  -- how many instructions the code of a formula has
  pub formula_size : Formula ℕ → ℕ
  formula_size (Eq a b) = term_size a + term_size b + 1
  formula_size (Lt a b) = term_size a + term_size b + 1
  formula_size (Le a b) = term_size a + term_size b + 1
  formula_size (Same a b) = formula_size a + formula_size b + 1
  formula_size (Both a b) = formula_size a + formula_size b + 1
  formula_size (Either a b) = formula_size a + formula_size b + 1
  formula_size (Not a) = formula_size a + 1
  formula_size (All a) = formula_size a + 5
  formula_size (Any a) = formula_size a + 5

  -- how many instructions the code of a term has
  pub term_size : Term ℕ → ℕ
  term_size (Number n) = 1
  term_size Id = 1
  term_size Mark = 1
  term_size Num = 1
  term_size Degree = 1
  term_size Pointed = 1
  term_size (My f) = 1
  term_size (Up f) = 1
  term_size UpWeight = 1
  term_size (Nb f) = 1
  term_size NbWeight = 1
  term_size NbUp = 1
  term_size (Add a b) = term_size a + term_size b + 1
  term_size (Sum a b) = formula_size a + term_size b + 6

-- a loop over the ports at a place: it begins with a number on the stack, which the body, of so
-- many instructions, takes and leaves at each port
abbrev pub loop_code : ℕ → ℕ → ℕ → List Instr → List Instr
loop_code place first size body =
    Push first ∷ (begin ∷ (more (place + size + 4) ∷ (body ++ next (place + 2) ∷ [])))

-- the code of two parts, with the instruction that takes what they come to
abbrev pub pair_code : List Instr → List Instr → Instr → List Instr
pair_code first second instr = first ++ (second ++ instr ∷ [])

abbrev mutual
  -- the code of a formula at a place
  pub formula_code : ℕ → Formula ℕ → List Instr
  formula_code place (Eq a b) =
      pair_code (term_code place a) (term_code (place + term_size a) b) eq
  formula_code place (Lt a b) =
      pair_code (term_code place a) (term_code (place + term_size a) b) lt
  formula_code place (Le a b) =
      pair_code (term_code place a) (term_code (place + term_size a) b) le
  formula_code place (Same a b) =
      pair_code (formula_code place a) (formula_code (place + formula_size a) b) eq
  formula_code place (Both a b) =
      pair_code (formula_code place a) (formula_code (place + formula_size a) b) both
  formula_code place (Either a b) =
      pair_code (formula_code place a) (formula_code (place + formula_size a) b) either
  formula_code place (Not a) = formula_code place a ++ negate ∷ []
  formula_code place (All a) =
      loop_code place 1 (formula_size a + 1) (formula_code (place + 3) a ++ both ∷ [])
  formula_code place (Any a) =
      loop_code place 0 (formula_size a + 1) (formula_code (place + 3) a ++ either ∷ [])

  -- the code of a term at a place
  pub term_code : ℕ → Term ℕ → List Instr
  term_code place (Number n) = Push n ∷ []
  term_code place Id = id ∷ []
  term_code place Mark = mark ∷ []
  term_code place Num = num ∷ []
  term_code place Degree = degree ∷ []
  term_code place Pointed = pointed ∷ []
  term_code place (My f) = my f ∷ []
  term_code place (Up f) = up f ∷ []
  term_code place UpWeight = up_weight ∷ []
  term_code place (Nb f) = nb f ∷ []
  term_code place NbWeight = nb_weight ∷ []
  term_code place NbUp = nb_up ∷ []
  term_code place (Add a b) =
      pair_code (term_code place a) (term_code (place + term_size a) b) add
  term_code place (Sum a b) =
      loop_code place 0 (formula_size a + term_size b + 2)
      (formula_code (place + 3) a
      ++ (term_code (place + 3 + formula_size a) b ++ mask ∷ (add ∷ [])))

-- the code of two terms at a place, with the instruction that takes their values
abbrev pub terms_code : ℕ → Term ℕ → Term ℕ → Instr → List Instr
terms_code place a b instr =
    pair_code (term_code place a) (term_code (place + term_size a) b) instr

-- the code of two formulas at a place, with the instruction that takes what they come to
abbrev pub formulas_code : ℕ → Formula ℕ → Formula ℕ → Instr → List Instr
formulas_code place a b instr =
    pair_code (formula_code place a) (formula_code (place + formula_size a) b) instr

-- the code of a loop at a place, whose number the instruction takes with what a formula comes to at
-- each port
abbrev pub at_ports_code : ℕ → ℕ → Formula ℕ → Instr → List Instr
at_ports_code place first a instr =
    loop_code place first (formula_size a + 1) (formula_code (place + 3) a ++ instr ∷ [])

-- the code of rules, the first of which has this number, at a place
abbrev pub rules_code : ℕ → ℕ → List (Formula ℕ) → List Instr
rules_code place number [] = accept ∷ []
rules_code place number (first ∷ others) =
    formula_code place first
    ++ rule number ∷ rules_code (place + formula_size first + 1) (number + 1) others

-- the code of a set's rules
abbrev pub code_of_rules : List (Formula ℕ) → List Instr
code_of_rules rules = rules_code 0 3 rules
