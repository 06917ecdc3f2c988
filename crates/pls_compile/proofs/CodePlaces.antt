-- Instructions that stand at a place of a code.
use Rattle.std.proofs.Common.{◌≡◌, ℕ, ◌+◌, ◌<◌, List, [], ◌∷◌, ◌++◌, length, Some, ap, ◌∙◌, subst, arith, append_assoc, length-append}
use Rattle.std.specs.Prelude.{slice_get}
use Rattle.std.proofs.Math.Seq.{get_or-append_seam}
use Rattle.std.proofs.lemmas.Option.{slice_get-get_or}
use Rattle.pls_compile.specs.declared.instr.Instr.{Instr}

-- the instructions stand in the code from this place on
abbrev pub HasAt : List Instr → ℕ → List Instr → Type 0
HasAt code place [] = Unit {0}
HasAt code place (instr ∷ others) =
    (slice_get code place ≡ Some instr) × HasAt code (place + 1) others

pub has_front : (code : List Instr) (place : ℕ) (a b : List Instr) → HasAt code place (a ++ b)
    → HasAt code place a
has_front code place [] b has = tt
has_front code place (instr ∷ a) b has = (has.0, has_front code (place + 1) a b has.1)

pub has_back : (code : List Instr) (place : ℕ) (a b : List Instr) → HasAt code place (a ++ b)
    → HasAt code (place + length a) b
has_back code place [] b has =
    let e : place ≡ place + 0 = omega arith in subst (λ (n : ℕ). HasAt code n b) e has
has_back code place (instr ∷ a) b has =
    let e : place + 1 + length a ≡ place + length (instr ∷ a) = omega arith in
    subst (λ (n : ℕ). HasAt code n b) e (has_back code (place + 1) a b has.1)

pub has_all : (others pre : List Instr) → HasAt (pre ++ others) (length pre) others
has_all [] pre = tt
has_all (instr ∷ others) pre =
    let within : length pre < length (pre ++ instr ∷ others) =
    omega (arith, length-append pre (instr ∷ others)) in
    let here = slice_get-get_or (pre ++ instr ∷ others) (length pre) instr within
    ∙ ap Some (get_or-append_seam pre instr others instr) in
    let n : length (pre ++ instr ∷ []) ≡ length pre + 1 =
    omega (arith, length-append pre (instr ∷ [])) in
    let rest = has_all others (pre ++ instr ∷ []) in
    let rest' = subst (λ (l : List Instr). HasAt l (length (pre ++ instr ∷ [])) others)
    (append_assoc pre (instr ∷ []) others) rest in
    (here, subst (λ (m : ℕ). HasAt (pre ++ instr ∷ others) m others) n rest')

-- the same under another name of the place
pub has_moved : (code : List Instr) (place other : ℕ) (a : List Instr) → place ≡ other
    → HasAt code place a → HasAt code other a
has_moved code place other a e has = subst (λ (n : ℕ). HasAt code n a) e has
