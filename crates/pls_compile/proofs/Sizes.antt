-- How many instructions the code of an expression has.
use Rattle.std.proofs.Common.{◌≡◌, ℕ, ◌+◌, List, [], ◌∷◌, ◌++◌, length, refl, arith, length-append}
use Rattle.pls_rules.specs.Formula.{Formula, Term, Eq, Lt, Le, Same, Both, Either, Not, All, Any, Number, Id, Mark, Num, Degree, Pointed, My, Up, UpWeight, Nb, NbWeight, NbUp, Add, Sum}
use Rattle.pls_compile.specs.declared.instr.Instr.{Instr}
use Rattle.pls_compile.specs.declared.instr.Instr.TheVariants.{Next as next}
use Rattle.pls_compile.specs.Code.{formula_code, formula_size, loop_code, term_code, term_size}

pub one_length : (a : List Instr) (instr : Instr) (size : ℕ) → length a ≡ size
    → length (a ++ instr ∷ []) ≡ size + 1
one_length a instr size long = omega (arith, long, length-append a (instr ∷ []))

pair_length : (a b : List Instr) (instr : Instr) (one two : ℕ) → length a ≡ one → length b ≡ two
    → length (a ++ (b ++ instr ∷ [])) ≡ one + two + 1
pair_length a b instr one two first second =
    omega (arith, first, second, length-append a (b ++ instr ∷ []), length-append b (instr ∷ []))

pub sum_length : (a b : List Instr) (mask add : Instr) (one two : ℕ) → length a ≡ one
    → length b ≡ two → length (a ++ (b ++ mask ∷ (add ∷ []))) ≡ one + two + 2
sum_length a b mask add one two first second =
    omega (
      arith,
      first,
      second,
      length-append a (b ++ mask ∷ (add ∷ [])),
      length-append b (mask ∷ (add ∷ [])),
    )

loop_length : (place first size : ℕ) (body : List Instr) (whole : ℕ) → length body ≡ size
    → size + 4 ≡ whole → length (loop_code place first size body) ≡ whole
loop_length place first size body whole long e =
    omega (arith, long, e, length-append body (next (place + 2) ∷ []))

mutual
  pub formula-length : (f : Formula ℕ) (place : ℕ) → length (formula_code place f) ≡ formula_size f
  formula-length (Eq a b) place =
      pair_length _ _ _ _ _ (term-length a place) (term-length b (place + term_size a))
  formula-length (Lt a b) place =
      pair_length _ _ _ _ _ (term-length a place) (term-length b (place + term_size a))
  formula-length (Le a b) place =
      pair_length _ _ _ _ _ (term-length a place) (term-length b (place + term_size a))
  formula-length (Same a b) place =
      pair_length _ _ _ _ _ (formula-length a place) (formula-length b (place + formula_size a))
  formula-length (Both a b) place =
      pair_length _ _ _ _ _ (formula-length a place) (formula-length b (place + formula_size a))
  formula-length (Either a b) place =
      pair_length _ _ _ _ _ (formula-length a place) (formula-length b (place + formula_size a))
  formula-length (Not a) place = one_length _ _ _ (formula-length a place)
  formula-length (All a) place =
      loop_length place 1 (formula_size a + 1) _ (formula_size a + 5)
      (one_length _ _ _ (formula-length a (place + 3))) (omega arith)
  formula-length (Any a) place =
      loop_length place 0 (formula_size a + 1) _ (formula_size a + 5)
      (one_length _ _ _ (formula-length a (place + 3))) (omega arith)

  pub term-length : (t : Term ℕ) (place : ℕ) → length (term_code place t) ≡ term_size t
  term-length (Number n) place = refl
  term-length Id place = refl
  term-length Mark place = refl
  term-length Num place = refl
  term-length Degree place = refl
  term-length Pointed place = refl
  term-length (My f) place = refl
  term-length (Up f) place = refl
  term-length UpWeight place = refl
  term-length (Nb f) place = refl
  term-length NbWeight place = refl
  term-length NbUp place = refl
  term-length (Add a b) place =
      pair_length _ _ _ _ _ (term-length a place) (term-length b (place + term_size a))
  term-length (Sum a b) place =
      loop_length place 0 (formula_size a + term_size b + 2) _ (formula_size a + term_size b + 6)
      (sum_length _ _ _ _ _ _ (formula-length a (place + 3))
      (term-length b (place + 3 + formula_size a))) (omega arith)
