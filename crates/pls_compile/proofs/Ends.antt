-- Runs that come to a verdict, put together from their ends to their starts.
use Rattle.std.proofs.Common.{◌≡◌, ℕ, zero, suc, ◌+◌, ◌*◌, ◌^◌, ◌<◌, ◌≤◌, List, [], ◌∷◌, ◌++◌, length, Option, Some, refl, sym, ap, ◌∙◌, subst, arith}
use Rattle.std.specs.Prelude.{slice_get, nat_lt, ◌==◌, ◌&&◌}
use Rattle.std.proofs.lemmas.Bool.{and_from, cond-true, cond-false, lt-ltb, eq-eqb, ne_eqb}
use Rattle.pls_configuration.specs.declared.verdict.Verdict.{Verdict}
use Rattle.pls_compile.specs.declared.instr.Instr.{Instr}
use Rattle.pls_compile.specs.declared.instr.Instr.TheVariants.{Push, Begin, More, Next}
use Rattle.pls_compile.specs.Code.{loop_code}
use Rattle.pls_compile.specs.RuleMeaning.{Sight}
use Rattle.pls_compile.specs.RuleMachine.{state_at, Goes, Answers, Stuck, put, act, act_if, after_step, run}
use Rattle.pls_compile.proofs.CodePlaces.{HasAt, has_front, has_back, has_moved}

-- from this state the machine comes to the verdict in at most so many steps
pub record Ends (code : List Instr) (view : Sight) (verdict : Verdict) (most place : ℕ)
    (stack ports : List ℕ) : Type 0 where
  pub count : ℕ
  pub within : count ≤ most
  pub answers : run code view count (state_at place stack ports) ≡ Answers verdict

-- there is room for a number
pub put_goes : (number place : ℕ) (stack ports : List ℕ) → length stack < 40 → number < 2 ^ 128
    → put number (state_at place stack ports) ≡ Goes (state_at (place + 1) (number ∷ stack) ports)
put_goes number place stack ports room small =
    cond-true (nat_lt (length stack) 40 && nat_lt number (2 ^ 128)) _ _
    (and_from (nat_lt (length stack) 40) (nat_lt number (2 ^ 128)) (lt-ltb _ _ room)
    (lt-ltb _ _ small))

module _ (code : List Instr) (view : Sight) (verdict : Verdict) where
  abbrev pub To : ℕ → ℕ → List ℕ → List ℕ → Type 0
  To most place stack ports = Ends code view verdict most place stack ports

  -- by one instruction
  pub by_instr : (most place next : ℕ) (stack stack' ports ports' : List ℕ) (instr : Instr)
      → slice_get code place ≡ Some instr
      → act view instr (state_at place stack ports) ≡ Goes (state_at next stack' ports')
      → To most next stack' ports' → To (suc most) place stack ports
  by_instr most place next stack stack' ports ports' instr at does ends = record {
    count = suc ends.count;
    within = omega (arith, ends.within);
    answers = ap (λ (found : Option Instr). after_step (run code view ends.count)
        (act_if view found (state_at place stack ports))) at
        ∙ ap (after_step (run code view ends.count)) does ∙ ends.answers;
  }

  -- by an instruction that puts a number on what it leaves
  pub put_ends : (most place number : ℕ) (pushed stack ports : List ℕ) (instr : Instr)
      → slice_get code place ≡ Some instr
      → act view instr (state_at place pushed ports) ≡ put number (state_at place stack ports)
      → length stack < 40 → number < 2 ^ 128
      → To most (place + 1) (number ∷ stack) ports → To (suc most) place pushed ports
  put_ends most place number pushed stack ports instr at does room small ends =
      by_instr most place (place + 1) pushed (number ∷ stack) ports ports instr at
      (does ∙ put_goes number place stack ports room small) ends

  pub longer : (few most place : ℕ) (stack ports : List ℕ) → few ≤ most → To few place stack ports
      → To most place stack ports
  longer few most place stack ports order ends = record {
    count = ends.count;
    within = omega (arith, ends.within);
    answers = ends.answers;
  }

  pub from_place : (most place other : ℕ) (stack ports : List ℕ) → place ≡ other
      → To most place stack ports → To most other stack ports
  from_place most place other stack ports e ends =
      subst (λ (n : ℕ). To most n stack ports) e ends

  pub from_top : (most place number other : ℕ) (stack ports : List ℕ) → number ≡ other
      → To most place (number ∷ stack) ports → To most place (other ∷ stack) ports
  from_top most place number other stack ports e ends =
      subst (λ (n : ℕ). To most place (n ∷ stack) ports) e ends

  -- the code of two operands, and an instruction
  pub pair_ends : (ka kb k place sa sb x y result : ℕ) (ca cb : List Instr) (instr : Instr)
      (stack ports : List ℕ) → length ca ≡ sa → length cb ≡ sb
      → act view instr (state_at (place + sa + sb) (y ∷ (x ∷ stack)) ports)
      ≡ put result (state_at (place + sa + sb) stack ports)
      → length stack < 40 → result < 2 ^ 128
      → HasAt code place (ca ++ (cb ++ instr ∷ []))
      → (HasAt code place ca → To (kb + suc k) (place + sa) (x ∷ stack) ports
      → To (ka + (kb + suc k)) place stack ports)
      → (HasAt code (place + sa) cb → To (suc k) (place + sa + sb) (y ∷ (x ∷ stack)) ports
      → To (kb + suc k) (place + sa) (x ∷ stack) ports)
      → To k (place + (sa + sb + 1)) (result ∷ stack) ports
      → To (ka + kb + 1 + k) place stack ports
  pair_ends ka kb k place sa sb x y result ca cb instr stack ports la lb does room small has first
      second ends =
      let has_first = has_front code place ca (cb ++ instr ∷ []) has in
      let behind = has_moved code (place + length ca) (place + sa) (cb ++ instr ∷ [])
      (ap (λ (n : ℕ). place + n) la) (has_back code place ca (cb ++ instr ∷ []) has) in
      let has_second = has_front code (place + sa) cb (instr ∷ []) behind in
      let at = has_moved code (place + sa + length cb) (place + sa + sb) (instr ∷ [])
      (ap (λ (n : ℕ). place + sa + n) lb) (has_back code (place + sa) cb (instr ∷ []) behind) in
      let last = from_place k (place + (sa + sb + 1)) (place + sa + sb + 1) (result ∷ stack) ports
      (omega arith) ends in
      let third = put_ends k (place + sa + sb) result (y ∷ (x ∷ stack)) stack ports instr at.0 does
      room small last in
      longer (ka + (kb + suc k)) (ka + kb + 1 + k) place stack ports (omega arith)
      (first has_first (second has_second third))

  -- the code of an operand, and an instruction
  pub tail_ends : (ka k place sa number : ℕ) (ca : List Instr) (instr : Instr)
      (before pushed stack ports : List ℕ) → length ca ≡ sa
      → act view instr (state_at (place + sa) pushed ports)
      ≡ put number (state_at (place + sa) stack ports)
      → length stack < 40 → number < 2 ^ 128 → HasAt code place (ca ++ instr ∷ [])
      → (HasAt code place ca → To (suc k) (place + sa) pushed ports
      → To (ka + suc k) place before ports)
      → To k (place + (sa + 1)) (number ∷ stack) ports → To (ka + 1 + k) place before ports
  tail_ends ka k place sa number ca instr before pushed stack ports la does room small has first
      ends =
      let at = has_moved code (place + length ca) (place + sa) (instr ∷ [])
      (ap (λ (n : ℕ). place + n) la) (has_back code place ca (instr ∷ []) has) in
      let last = from_place k (place + (sa + 1)) (place + sa + 1) (number ∷ stack) ports
      (omega arith) ends in
      let second = put_ends k (place + sa) number pushed stack ports instr at.0 does room small
      last in
      longer (ka + suc k) (ka + 1 + k) place before ports (omega arith)
      (first (has_front code place ca (instr ∷ []) has) second)

  -- a loop over the ports: at each port the body takes a number and leaves the next
  module _ (turn k place first size : ℕ) (body : List Instr) (stack ports : List ℕ) (acc : ℕ → ℕ)
      (has : HasAt code place (loop_code place first size body)) (long : length body ≡ size)
      (each : (n port : ℕ) → port < length view.ports
      → To n (place + 3 + size) (acc (suc port) ∷ stack) (port ∷ ports)
      → To (turn + n) (place + 3) (acc port ∷ stack) (port ∷ ports))
      (ends : To k (place + (size + 4)) (acc (length view.ports) ∷ stack) ports) where
    at_more : slice_get code (place + 2) ≡ Some (More (place + size + 4))
    at_more =
        let e : place + 1 + 1 ≡ place + 2 = omega arith in
        subst (λ (n : ℕ). slice_get code n ≡ Some (More (place + size + 4))) e has.1.1.0

    at_next : slice_get code (place + 3 + size) ≡ Some (Next (place + 2))
    at_next =
        let e : place + 1 + 1 + 1 + length body ≡ place + 3 + size = omega (arith, long) in
        let back = has_back code (place + 1 + 1 + 1) body (Next (place + 2) ∷ []) has.1.1.1 in
        subst (λ (n : ℕ). slice_get code n ≡ Some (Next (place + 2))) e back.0

    from_port : (left port : ℕ) → port + left ≡ length view.ports
        → To (left * (turn + 2) + 1 + k) (place + 2) (acc port ∷ stack) (port ∷ ports)
    from_port zero port e =
        let last : port ≡ length view.ports = omega (arith, e) in
        let same = cond-true (port == length view.ports)
        (Goes (state_at (place + size + 4) (acc port ∷ stack) ports))
        (Goes (state_at (place + 2 + 1) (acc port ∷ stack) (port ∷ ports)))
        (eq-eqb port (length view.ports) last) in
        let there = from_top k (place + size + 4) (acc (length view.ports)) (acc port) stack ports
        (ap acc (sym last))
        (from_place k (place + (size + 4)) (place + size + 4) (acc (length view.ports) ∷ stack)
        ports
        (omega arith) ends) in
        longer (suc k) (0 * (turn + 2) + 1 + k) (place + 2) (acc port ∷ stack) (port ∷ ports)
        (omega arith)
        (by_instr k (place + 2) (place + size + 4) (acc port ∷ stack) (acc port ∷ stack)
        (port ∷ ports) ports (More (place + size + 4)) at_more same there)
    from_port (suc left) port e =
        let within : port < length view.ports = omega (arith, e) in
        let later = from_port left (suc port) (omega (arith, e)) in
        let most : ℕ = left * (turn + 2) + 1 + k in
        let turned : suc port ≡ port + 1 = omega arith in
        let next = subst (λ (n : ℕ). To most (place + 2) (acc (suc port) ∷ stack) (n ∷ ports))
        turned
        later in
        let turns = cond-true (nat_lt port (length view.ports))
        (Goes (state_at (place + 2) (acc (suc port) ∷ stack) ((port + 1) ∷ ports))) Stuck
        (lt-ltb port (length view.ports) within) in
        let behind = by_instr most (place + 3 + size) (place + 2) (acc (suc port) ∷ stack)
        (acc (suc port) ∷ stack) (port ∷ ports) ((port + 1) ∷ ports) (Next (place + 2)) at_next
        turns next in
        let here = each (suc most) port within behind in
        let start = from_place (turn + suc most) (place + 3) (place + 2 + 1) (acc port ∷ stack)
        (port ∷ ports) (omega arith) here in
        let other : port ≡ length view.ports → ⊥ = λ same. omega (arith, same, within) in
        let goes = cond-false (port == length view.ports)
        (Goes (state_at (place + size + 4) (acc port ∷ stack) ports))
        (Goes (state_at (place + 2 + 1) (acc port ∷ stack) (port ∷ ports)))
        (ne_eqb port (length view.ports) other) in
        longer (suc (turn + suc most)) (suc left * (turn + 2) + 1 + k) (place + 2)
        (acc port ∷ stack) (port ∷ ports) (omega arith)
        (by_instr (turn + suc most) (place + 2) (place + 2 + 1) (acc port ∷ stack)
        (acc port ∷ stack) (port ∷ ports) (port ∷ ports) (More (place + size + 4)) at_more goes
        start)

    pub loop_ends : acc 0 ≡ first → first < 2 ^ 128 → length stack < 40 → length ports < 2
        → To (length view.ports * (turn + 2) + 3 + k) place stack ports
    loop_ends starts small room few =
        let most : ℕ = length view.ports * (turn + 2) + 1 + k in
        let looped = from_port (length view.ports) 0 (omega arith) in
        let on_first = from_top most (place + 2) (acc 0) first stack (0 ∷ ports) starts looped in
        let begun = from_place most (place + 2) (place + 1 + 1) (first ∷ stack) (0 ∷ ports)
        (omega arith) on_first in
        let goes = cond-true (nat_lt (length ports) 2)
        (Goes (state_at (place + 1 + 1) (first ∷ stack) (0 ∷ ports))) Stuck (lt-ltb _ _ few) in
        let second = by_instr most (place + 1) (place + 1 + 1) (first ∷ stack) (first ∷ stack) ports
        (0 ∷ ports) Begin has.1.0 goes begun in
        longer (suc (suc most)) (length view.ports * (turn + 2) + 3 + k) place stack ports
        (omega arith)
        (put_ends (suc most) place first stack stack ports (Push first) has.0 refl room small
        second)
