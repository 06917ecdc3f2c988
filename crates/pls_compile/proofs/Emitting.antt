-- Code that is written piece by piece.
use Rattle.std.proofs.Common.{◌≡◌, ◌∙◌, ℕ, ◌+◌, List, [], ◌∷◌, ◌++◌, length, sym, ap, arith, append_assoc, length-append}
use Rattle.std.specs.Prelude.{slice_set}
use Rattle.std.proofs.Math.Seq.{set-append_seam}
use Rattle.pls_compile.specs.declared.instr.Instr.{Instr}
use Rattle.pls_compile.specs.declared.instr.Instr.TheVariants.{Begin, More, Next, Push, Rule}
use Rattle.pls_rules.specs.Formula.{Formula}
use Rattle.pls_compile.specs.Code.{formula_code, formula_size, loop_code, rules_code}
use Rattle.pls_compile.proofs.Sizes.{formula-length}

-- a piece and one instruction
pub one_emitted : (base ca c1 c2 : List Instr) (instr : Instr) → c1 ≡ base ++ ca
    → c2 ≡ c1 ++ instr ∷ [] → c2 ≡ base ++ (ca ++ instr ∷ [])
one_emitted base ca c1 c2 instr e1 e2 =
    e2 ∙ ap (λ (c : List Instr). c ++ instr ∷ []) e1 ∙ append_assoc base ca (instr ∷ [])

-- where a piece ends
piece_end : (base ca c1 : List Instr) (sa : ℕ) → c1 ≡ base ++ ca → length ca ≡ sa
    → length c1 ≡ length base + sa
piece_end base ca c1 sa e1 la = omega (arith, ap length e1, la, length-append base ca)

-- two pieces and one instruction
pub pair_emitted : (base ca c1 c2 c3 : List Instr) (cb : ℕ → List Instr) (sa : ℕ) (instr : Instr)
    → c1 ≡ base ++ ca → length ca ≡ sa → c2 ≡ c1 ++ cb (length c1) → c3 ≡ c2 ++ instr ∷ []
    → c3 ≡ base ++ (ca ++ (cb (length base + sa) ++ instr ∷ []))
pair_emitted base ca c1 c2 c3 cb sa instr e1 la e2 e3 =
    let at = piece_end base ca c1 sa e1 la in
    let second = cb (length base + sa) in
    e3 ∙ ap (λ (c : List Instr). c ++ instr ∷ [])
    (e2 ∙ ap (λ (n : ℕ). c1 ++ cb n) at ∙ ap (λ (c : List Instr). c ++ second) e1)
    ∙ append_assoc (base ++ ca) second (instr ∷ []) ∙ append_assoc base ca (second ++ instr ∷ [])

-- a loop, whose end is written into its front
pub loop_emitted : (base body c1 c3 c4 : List Instr) (first start size : ℕ)
    → c1 ≡ base ++ Push first ∷ (Begin ∷ (More 0 ∷ [])) → start ≡ length base + 2
    → c3 ≡ c1 ++ body → length body ≡ size
    → c4 ≡ slice_set (c3 ++ Next start ∷ []) start (More (length c3 + 1))
    → c4 ≡ base ++ loop_code (length base) first size body
loop_emitted base body c1 c3 c4 first start size e1 at e3 long e4 =
    let front = base ++ Push first ∷ (Begin ∷ []) in
    let front_long : start ≡ length front =
    omega (arith, at, length-append base (Push first ∷ (Begin ∷ []))) in
    let c1_long : length c1 ≡ length base + 3 =
    omega (arith, ap length e1, length-append base (Push first ∷ (Begin ∷ (More 0 ∷ [])))) in
    let end : length c3 + 1 ≡ length base + size + 4 =
    omega (arith, ap length e3, length-append c1 body, long, c1_long) in
    let flat : (base ++ Push first ∷ (Begin ∷ (More 0 ∷ []))) ++ body
    ≡ front ++ More 0 ∷ body =
    append_assoc base (Push first ∷ (Begin ∷ (More 0 ∷ []))) body
    ∙ sym (append_assoc base (Push first ∷ (Begin ∷ [])) (More 0 ∷ body)) in
    let whole : c3 ++ Next start ∷ [] ≡ front ++ More 0 ∷ (body ++ Next start ∷ []) =
    ap (λ (c : List Instr). c ++ Next start ∷ [])
    (e3 ∙ ap (λ (c : List Instr). c ++ body) e1 ∙ flat)
    ∙ append_assoc front (More 0 ∷ body) (Next start ∷ []) in
    e4 ∙ ap (λ (c : List Instr). slice_set c start (More (length c3 + 1))) whole
    ∙ ap (λ (n : ℕ). slice_set (front ++ More 0 ∷ (body ++ Next start ∷ [])) n
    (More (length c3 + 1))) front_long
    ∙ set-append_seam front (More 0) (body ++ Next start ∷ []) (More (length c3 + 1))
    ∙ append_assoc base (Push first ∷ (Begin ∷ []))
    (More (length c3 + 1) ∷ (body ++ Next start ∷ []))
    ∙ ap (λ (n : ℕ). base ++ Push first ∷ (Begin ∷ (More n ∷ (body ++ Next start ∷ [])))) end
    ∙ ap (λ (n : ℕ). base ++ Push first ∷ (Begin ∷ (More (length base + size + 4)
    ∷ (body ++ Next n ∷ [])))) at

-- a loop whose body is a piece and one instruction
pub each_emitted : (base c1 c2 c3 c4 : List Instr) (ca : ℕ → List Instr)
    (first start size : ℕ) (instr : Instr)
    → c1 ≡ base ++ Push first ∷ (Begin ∷ (More 0 ∷ [])) → start ≡ length base + 2
    → c2 ≡ c1 ++ ca (length c1) → c3 ≡ c2 ++ instr ∷ []
    → length (ca (length base + 3) ++ instr ∷ []) ≡ size
    → c4 ≡ slice_set (c3 ++ Next start ∷ []) start (More (length c3 + 1))
    → c4 ≡ base ++ loop_code (length base) first size (ca (length base + 3) ++ instr ∷ [])
each_emitted base c1 c2 c3 c4 ca first start size instr e1 at e2 e3 long e4 =
    let c1_long : length c1 ≡ length base + 3 =
    omega (arith, ap length e1, length-append base (Push first ∷ (Begin ∷ (More 0 ∷ [])))) in
    let body = ca (length base + 3) ++ instr ∷ [] in
    let written : c3 ≡ c1 ++ body =
    e3 ∙ ap (λ (c : List Instr). c ++ instr ∷ []) (e2 ∙ ap (λ (n : ℕ). c1 ++ ca n) c1_long)
    ∙ append_assoc c1 (ca (length base + 3)) (instr ∷ []) in
    loop_emitted base body c1 c3 c4 first start size e1 at written long e4

-- a loop whose body is two pieces and two instructions
pub sum_emitted : (base c1 c2 c3 c4 c5 c6 : List Instr) (ca cb : ℕ → List Instr)
    (first start size sa : ℕ) (one two : Instr)
    → c1 ≡ base ++ Push first ∷ (Begin ∷ (More 0 ∷ [])) → start ≡ length base + 2
    → c2 ≡ c1 ++ ca (length c1) → length (ca (length base + 3)) ≡ sa
    → c3 ≡ c2 ++ cb (length c2) → c4 ≡ c3 ++ one ∷ [] → c5 ≡ c4 ++ two ∷ []
    → length (ca (length base + 3) ++ (cb (length base + 3 + sa) ++ one ∷ (two ∷ []))) ≡ size
    → c6 ≡ slice_set (c5 ++ Next start ∷ []) start (More (length c5 + 1))
    → c6 ≡ base ++ loop_code (length base) first size
    (ca (length base + 3) ++ (cb (length base + 3 + sa) ++ one ∷ (two ∷ [])))
sum_emitted base c1 c2 c3 c4 c5 c6 ca cb first start size sa one two e1 at e2 la e3 e4 e5 long e6 =
    let c1_long : length c1 ≡ length base + 3 =
    omega (arith, ap length e1, length-append base (Push first ∷ (Begin ∷ (More 0 ∷ [])))) in
    let front = ca (length base + 3) in
    let c2_is : c2 ≡ c1 ++ front = e2 ∙ ap (λ (n : ℕ). c1 ++ ca n) c1_long in
    let c2_long : length c2 ≡ length base + 3 + sa =
    omega (arith, piece_end c1 front c2 sa c2_is la, c1_long) in
    let back = cb (length base + 3 + sa) in
    let c3_is : c3 ≡ (c1 ++ front) ++ back =
    e3 ∙ ap (λ (n : ℕ). c2 ++ cb n) c2_long ∙ ap (λ (c : List Instr). c ++ back) c2_is in
    let c5_is : c5 ≡ (c3 ++ one ∷ []) ++ two ∷ [] =
    e5 ∙ ap (λ (c : List Instr). c ++ two ∷ []) e4 in
    let written : c5 ≡ c1 ++ (front ++ (back ++ one ∷ (two ∷ []))) =
    c5_is ∙ append_assoc c3 (one ∷ []) (two ∷ [])
    ∙ ap (λ (c : List Instr). c ++ one ∷ (two ∷ [])) c3_is
    ∙ append_assoc (c1 ++ front) back (one ∷ (two ∷ []))
    ∙ append_assoc c1 front (back ++ one ∷ (two ∷ [])) in
    loop_emitted base (front ++ (back ++ one ∷ (two ∷ []))) c1 c5 c6 first start size e1 at written
    long e6

-- the code of one rule more
pub rule_emitted : (base c1 c2 whole : List Instr) (first : Formula ℕ) (others : List (Formula ℕ))
    (number : ℕ) → base ++ rules_code (length base) number (first ∷ others) ≡ whole
    → c1 ≡ base ++ formula_code (length base) first → c2 ≡ c1 ++ Rule number ∷ []
    → c2 ++ rules_code (length c2) (number + 1) others ≡ whole
rule_emitted base c1 c2 whole first others number so_far e1 e2 =
    let code = formula_code (length base) first in
    let c1_long = piece_end base code c1 (formula_size first) e1
    (formula-length first (length base)) in
    let long : length c2 ≡ length base + formula_size first + 1 =
    omega (arith, ap length e2, length-append c1 (Rule number ∷ []), c1_long) in
    let rest = rules_code (length base + formula_size first + 1) (number + 1) others in
    ap (λ (n : ℕ). c2 ++ rules_code n (number + 1) others) long
    ∙ ap (λ (c : List Instr). c ++ rest) (one_emitted base code c1 c2 (Rule number) e1 e2)
    ∙ append_assoc base (code ++ Rule number ∷ []) rest
    ∙ ap (λ (c : List Instr). base ++ c) (append_assoc code (Rule number ∷ []) rest) ∙ so_far
