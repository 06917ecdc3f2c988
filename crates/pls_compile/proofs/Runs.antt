-- The run of an expression's code puts its value.
use Rattle.std.proofs.Common.{◌≡◌, ℕ, suc, ◌+◌, ◌*◌, ◌^◌, ◌<◌, ◌≤◌, Bool, true, List, [], ◌∷◌, ◌++◌, length, refl, ap, arith}
use Rattle.std.specs.Prelude.{nat_lt, nat_le, ◌==◌, ◌&&◌, ◌||◌, not, if◌then◌else◌}
use Rattle.pls_configuration.specs.declared.verdict.Verdict.{Verdict}
use Rattle.pls_bits.specs.Bytes.{weigh}
use Rattle.pls_scheme.specs.Reading.{target}
use Rattle.pls_rules.specs.Formula.{Formula, Term, Eq, Lt, Le, Same, Both, Either, Not, All as Each, Any, Number, Id, Mark, Num, Degree, Pointed, My, Up, UpWeight, Nb, NbWeight, NbUp, Add, Sum, formula_height, formula_nesting, term_height, term_nesting}
use Rattle.pls_rules.specs.RuleSet.{FormulaFits, TermFits}
use Rattle.pls_compile.specs.declared.instr.Instr.{Instr}
use Rattle.pls_compile.specs.declared.instr.Instr.TheVariants.{Push as push, Id as id, Mark as mark, Num as num, Degree as degree, Pointed as pointed, My as my, Up as up, Nb as nb, UpWeight as up_weight, NbWeight as nb_weight, NbUp as nb_up, Add as add, Mask as mask, Eq as eq, Lt as lt, Le as le, Not as not', Both as both, Either as either, Next as next}
use Rattle.pls_compile.specs.Code.{formula_code, formula_size, loop_code, term_code, term_size}
use Rattle.pls_compile.specs.Readable.{IsReadable}
use Rattle.pls_compile.specs.RuleMeaning.{Sight, agree, at_each, at_some, holds, innermost, is_pointed_at, sum_where, value, weight_at}
use Rattle.pls_compile.specs.RuleMachine.{state_at, put, act}
use Rattle.pls_compile.proofs.Steps.{formula_steps, term_steps}
use Rattle.pls_compile.proofs.Ends.{To, from_place, longer, loop_ends, pair_ends, put_ends, tail_ends}
use Rattle.pls_compile.proofs.CodePlaces.{HasAt, has_back, has_front, has_moved}
use Rattle.pls_compile.proofs.Sizes.{formula-length, one_length, sum_length, term-length}
use Rattle.pls_compile.proofs.Values.{below_top, innermost_fits, sum_below, target_fits, term_small}
use Rattle.pls_compile.proofs.Putting.{IsRound, above_puts, beside_puts, both_weighs, either_weighs, field_puts, innermost_there, second_weighs, not_weighs, part_fits, same_weighs, if_port_puts, weigh_fits}
use Rattle.pls_compile.proofs.Rooms.{HasRoom, room_first, room_here, room_inside, room_second, room_summed, room_under, room_where}

-- the body of a loop stands behind its first three instructions
body_has : (code : List Instr) (place first size : ℕ) (body : List Instr)
    → HasAt code place (loop_code place first size body) → HasAt code (place + 3) body
body_has code place first size body has =
    let e : place + 1 + 1 + 1 ≡ place + 3 = omega arith in
    has_moved code (place + 1 + 1 + 1) (place + 3) body e
    (has_front code (place + 1 + 1 + 1) body (next (place + 2) ∷ []) has.1.1.1)

loop_place : (place size : ℕ) → place + (size + 5) ≡ place + (size + 1 + 4)
loop_place place size = omega arith

sum_place : (place one two : ℕ) → place + (one + two + 6) ≡ place + (one + two + 2 + 4)
sum_place place one two = omega arith

module _ (code : List Instr) (view : Sight) (verdict : Verdict) (count : ℕ)
    (readable : IsReadable count view) where
  -- an atom: one instruction
  atom_ends : (k place number : ℕ) (stack ports : List ℕ) (instr : Instr)
      → HasAt code place (instr ∷ [])
      → act view instr (state_at place stack ports) ≡ put number (state_at place stack ports)
      → length stack < 40 → number < 2 ^ 128
      → To code view verdict k (place + 1) (number ∷ stack) ports
      → To code view verdict (1 + k) place stack ports
  atom_ends k place number stack ports instr has does room small ends =
      longer code view verdict (suc k) (1 + k) place stack ports (omega arith)
      (put_ends code view verdict k place number stack stack ports instr has.0 does room small ends)

  -- the value of a term within its room
  fits_top : (inside : Bool) (t : Term ℕ) (stack ports : List ℕ) → TermFits count inside t
      → HasRoom (term_height t) (term_nesting t) stack ports → value view ports t < 2 ^ 128
  fits_top inside t stack ports fits room =
      below_top (value view ports t) (term_height t + 14 * term_nesting t)
      (term_small count view readable inside t ports fits) room.of_value

  -- the sum so far, within its room
  sum_fits : (a : Formula ℕ) (b : Term ℕ) (ports : List ℕ) (n : ℕ) → TermFits count true b
      → n ≤ 32767 → term_height b + 14 * term_nesting b + 15 ≤ 59
      → sum_where (λ port. holds view (port ∷ ports) a) (λ port. value view (port ∷ ports) b) n
      < 2 ^ 128
  sum_fits a b ports n fits few room =
      let k : ℕ = term_height b + 14 * term_nesting b in
      below_top _ (k + 15) (sum_below (λ (port : ℕ). holds view (port ∷ ports) a)
      (λ (port : ℕ). value view (port ∷ ports) b) k n
      (λ port. term_small count view readable true b (port ∷ ports) fits) few) room

  -- one turn of a sum's loop
  turn_ends : (n place sa sb ka kb : ℕ) (ca cb : List Instr) (x : ℕ) (test : Bool) (number : ℕ)
      (stack ports : List ℕ) → length ca ≡ sa → length cb ≡ sb → length stack ≤ 37
      → number < 2 ^ 128 → x + (if test then number else 0) < 2 ^ 128
      → HasAt code (place + 3) (ca ++ (cb ++ mask ∷ (add ∷ [])))
      → (HasAt code (place + 3) ca
      → To code view verdict (kb + suc (suc n)) (place + 3 + sa) (weigh test ∷ (x ∷ stack)) ports
      → To code view verdict (ka + (kb + suc (suc n))) (place + 3) (x ∷ stack) ports)
      → (HasAt code (place + 3 + sa) cb
      → To code view verdict (suc (suc n)) (place + 3 + sa + sb)
      (number ∷ (weigh test ∷ (x ∷ stack))) ports
      → To code view verdict (kb + suc (suc n)) (place + 3 + sa) (weigh test ∷ (x ∷ stack)) ports)
      → To code view verdict n (place + 3 + (sa + sb + 2))
      ((x + (if test then number else 0)) ∷ stack) ports
      → To code view verdict (ka + kb + 2 + n) (place + 3) (x ∷ stack) ports
  turn_ends n place sa sb ka kb ca cb x test number stack ports la lb few small fits has first
      second
      ends =
      let from : ℕ = place + 3 in
      let part : ℕ = if test then number else 0 in
      let behind = has_moved code (from + length ca) (from + sa) (cb ++ mask ∷ (add ∷ []))
      (ap (λ (n : ℕ). from + n) la) (has_back code from ca (cb ++ mask ∷ (add ∷ [])) has) in
      let at = has_moved code (from + sa + length cb) (from + sa + sb) (mask ∷ (add ∷ []))
      (ap (λ (n : ℕ). from + sa + n) lb)
      (has_back code (from + sa) cb (mask ∷ (add ∷ [])) behind) in
      let last = from_place code view verdict n (from + (sa + sb + 2)) (from + sa + sb + 1 + 1)
      ((x + part) ∷ stack) ports (omega arith) ends in
      let added = put_ends code view verdict n (from + sa + sb + 1) (x + part)
      (part ∷ (x ∷ stack)) stack ports add at.1.0 refl (omega (arith, few)) fits last in
      let part_small : part < 2 ^ 128 = part_fits test number small in
      let done = put_ends code view verdict (suc n) (from + sa + sb) part
      (number ∷ (weigh test ∷ (x ∷ stack))) (x ∷ stack) ports mask at.0
      (ap (λ (n : ℕ). put n (state_at (from + sa + sb) (x ∷ stack) ports))
      (second_weighs test number))
      (omega (arith, few)) part_small added in
      longer code view verdict (ka + (kb + suc (suc n))) (ka + kb + 2 + n) from (x ∷ stack) ports
      (omega arith)
      (first (has_front code from ca (cb ++ mask ∷ (add ∷ [])) has)
      (second (has_front code (from + sa) cb (mask ∷ (add ∷ [])) behind) done))

  mutual
    pub formula_runs : (f : Formula ℕ) (k place : ℕ) (stack ports : List ℕ) (inside : Bool)
        → FormulaFits count inside f → IsRound view inside ports
        → HasRoom (formula_height f) (formula_nesting f) stack ports
        → HasAt code place (formula_code place f)
        → To code view verdict k (place + formula_size f) (weigh (holds view ports f) ∷ stack) ports
        → To code view verdict (formula_steps (length view.ports) f + k) place stack ports
    formula_runs (Eq a b) k place stack ports inside fits round room has ends =
        let x : ℕ = value view ports a in
        let y : ℕ = value view ports b in
        pair_ends code view verdict (term_steps (length view.ports) a)
        (term_steps (length view.ports) b) k place (term_size a) (term_size b) x y (weigh (x == y))
        (term_code place a) (term_code (place + term_size a) b) eq stack ports
        (term-length a place) (term-length b (place + term_size a)) refl
        (room_here (formula_height (Eq a b)) (formula_nesting (Eq a b)) stack ports room)
        (weigh_fits (x == y)) has
        (term_runs a (term_steps (length view.ports) b + suc k) place stack ports inside fits.0
        round
        (room_first (term_height a) (term_height b) (term_nesting a) (term_nesting b) stack ports
        room))
        (term_runs b (suc k) (place + term_size a) (x ∷ stack) ports inside fits.1 round
        (room_second (term_height a) (term_height b) (term_nesting a) (term_nesting b) x stack ports
        room)) ends
    formula_runs (Lt a b) k place stack ports inside fits round room has ends =
        let x : ℕ = value view ports a in
        let y : ℕ = value view ports b in
        pair_ends code view verdict (term_steps (length view.ports) a)
        (term_steps (length view.ports) b) k place (term_size a) (term_size b) x y
        (weigh (nat_lt x y)) (term_code place a) (term_code (place + term_size a) b) lt stack ports
        (term-length a place) (term-length b (place + term_size a)) refl
        (room_here (formula_height (Lt a b)) (formula_nesting (Lt a b)) stack ports room)
        (weigh_fits (nat_lt x y)) has
        (term_runs a (term_steps (length view.ports) b + suc k) place stack ports inside fits.0
        round
        (room_first (term_height a) (term_height b) (term_nesting a) (term_nesting b) stack ports
        room))
        (term_runs b (suc k) (place + term_size a) (x ∷ stack) ports inside fits.1 round
        (room_second (term_height a) (term_height b) (term_nesting a) (term_nesting b) x stack ports
        room)) ends
    formula_runs (Le a b) k place stack ports inside fits round room has ends =
        let x : ℕ = value view ports a in
        let y : ℕ = value view ports b in
        pair_ends code view verdict (term_steps (length view.ports) a)
        (term_steps (length view.ports) b) k place (term_size a) (term_size b) x y
        (weigh (nat_le x y)) (term_code place a) (term_code (place + term_size a) b) le stack ports
        (term-length a place) (term-length b (place + term_size a)) refl
        (room_here (formula_height (Le a b)) (formula_nesting (Le a b)) stack ports room)
        (weigh_fits (nat_le x y)) has
        (term_runs a (term_steps (length view.ports) b + suc k) place stack ports inside fits.0
        round
        (room_first (term_height a) (term_height b) (term_nesting a) (term_nesting b) stack ports
        room))
        (term_runs b (suc k) (place + term_size a) (x ∷ stack) ports inside fits.1 round
        (room_second (term_height a) (term_height b) (term_nesting a) (term_nesting b) x stack ports
        room)) ends
    formula_runs (Same a b) k place stack ports inside fits round room has ends =
        let x : Bool = holds view ports a in
        let y : Bool = holds view ports b in
        pair_ends code view verdict (formula_steps (length view.ports) a)
        (formula_steps (length view.ports) b) k place (formula_size a) (formula_size b) (weigh x)
        (weigh y)
        (weigh (agree x y)) (formula_code place a) (formula_code (place + formula_size a) b) eq
        stack
        ports (formula-length a place) (formula-length b (place + formula_size a))
        (ap (λ (n : ℕ). put n (state_at (place + formula_size a + formula_size b) stack ports))
        (same_weighs x y))
        (room_here (formula_height (Same a b)) (formula_nesting (Same a b)) stack ports room)
        (weigh_fits (agree x y)) has
        (formula_runs a (formula_steps (length view.ports) b + suc k) place stack ports inside
        fits.0 round
        (room_first (formula_height a) (formula_height b) (formula_nesting a) (formula_nesting b)
        stack
        ports room))
        (formula_runs b (suc k) (place + formula_size a) (weigh x ∷ stack) ports inside fits.1 round
        (room_second (formula_height a) (formula_height b) (formula_nesting a) (formula_nesting b)
        (weigh x) stack ports room)) ends
    formula_runs (Both a b) k place stack ports inside fits round room has ends =
        let x : Bool = holds view ports a in
        let y : Bool = holds view ports b in
        pair_ends code view verdict (formula_steps (length view.ports) a)
        (formula_steps (length view.ports) b) k place (formula_size a) (formula_size b) (weigh x)
        (weigh y)
        (weigh (x && y)) (formula_code place a) (formula_code (place + formula_size a) b) both stack
        ports (formula-length a place) (formula-length b (place + formula_size a))
        (ap (λ (n : ℕ). put n (state_at (place + formula_size a + formula_size b) stack ports))
        (both_weighs x y))
        (room_here (formula_height (Both a b)) (formula_nesting (Both a b)) stack ports room)
        (weigh_fits (x && y)) has
        (formula_runs a (formula_steps (length view.ports) b + suc k) place stack ports inside
        fits.0 round
        (room_first (formula_height a) (formula_height b) (formula_nesting a) (formula_nesting b)
        stack
        ports room))
        (formula_runs b (suc k) (place + formula_size a) (weigh x ∷ stack) ports inside fits.1 round
        (room_second (formula_height a) (formula_height b) (formula_nesting a) (formula_nesting b)
        (weigh x) stack ports room)) ends
    formula_runs (Either a b) k place stack ports inside fits round room has ends =
        let x : Bool = holds view ports a in
        let y : Bool = holds view ports b in
        pair_ends code view verdict (formula_steps (length view.ports) a)
        (formula_steps (length view.ports) b) k place (formula_size a) (formula_size b) (weigh x)
        (weigh y)
        (weigh (x || y)) (formula_code place a) (formula_code (place + formula_size a) b) either
        stack ports (formula-length a place) (formula-length b (place + formula_size a))
        (ap (λ (n : ℕ). put n (state_at (place + formula_size a + formula_size b) stack ports))
        (either_weighs x y))
        (room_here (formula_height (Either a b)) (formula_nesting (Either a b)) stack ports room)
        (weigh_fits (x || y)) has
        (formula_runs a (formula_steps (length view.ports) b + suc k) place stack ports inside
        fits.0 round
        (room_first (formula_height a) (formula_height b) (formula_nesting a) (formula_nesting b)
        stack
        ports room))
        (formula_runs b (suc k) (place + formula_size a) (weigh x ∷ stack) ports inside fits.1 round
        (room_second (formula_height a) (formula_height b) (formula_nesting a) (formula_nesting b)
        (weigh x) stack ports room)) ends
    formula_runs (Not a) k place stack ports inside fits round room has ends =
        let x : Bool = holds view ports a in
        tail_ends code view verdict (formula_steps (length view.ports) a) k place (formula_size a)
        (weigh (not x)) (formula_code place a)
        not' stack (weigh x ∷ stack) stack ports (formula-length a place)
        (ap (λ (n : ℕ). put n (state_at (place + formula_size a) stack ports)) (not_weighs x))
        (room_here (formula_height (Not a)) (formula_nesting (Not a)) stack ports room)
        (weigh_fits (not x)) has
        (formula_runs a (suc k) place stack ports inside fits round
        (room_under (formula_height a) (formula_nesting a) stack ports room))
        ends
    formula_runs (Each a) k place stack ports inside fits round room has ends =
        let test : ℕ → Bool = λ port. holds view (port ∷ ports) a in
        let acc : ℕ → ℕ = λ port. weigh (at_each test port) in
        loop_ends code view verdict (formula_steps (length view.ports) a + 1) k place 1
        (formula_size a + 1) (formula_code (place + 3) a ++ both ∷ []) stack ports acc has
        (one_length (formula_code (place + 3) a) both (formula_size a)
        (formula-length a (place + 3)))
        (λ n port within later. tail_ends code view verdict (formula_steps (length view.ports) a) n
        (place + 3) (formula_size a)
        (acc (suc port)) (formula_code (place + 3) a) both (acc port ∷ stack)
        (weigh (test port) ∷ (acc port ∷ stack)) stack (port ∷ ports)
        (formula-length a (place + 3))
        (ap (λ (n : ℕ). put n (state_at (place + 3 + formula_size a) stack (port ∷ ports)))
        (both_weighs (at_each test port) (test port)))
        (room_here (formula_height (Each a)) (formula_nesting (Each a)) stack ports room)
        (weigh_fits (at_each test (suc port)))
        (body_has code place 1 (formula_size a + 1) (formula_code (place + 3) a ++ both ∷ []) has)
        (formula_runs a (suc n) (place + 3) (acc port ∷ stack) (port ∷ ports) true fits within
        (room_inside (formula_height a) (formula_nesting a) (acc port) port stack ports room))
        later)
        (from_place code view verdict k (place + (formula_size a + 5))
        (place + (formula_size a + 1 + 4)) (acc (length view.ports) ∷ stack) ports
        (loop_place place (formula_size a)) ends)
        refl (omega arith) (room_here (formula_height (Each a)) (formula_nesting (Each a)) stack
        ports room) (omega (arith, room.of_ports))
    formula_runs (Any a) k place stack ports inside fits round room has ends =
        let test : ℕ → Bool = λ port. holds view (port ∷ ports) a in
        let acc : ℕ → ℕ = λ port. weigh (at_some test port) in
        loop_ends code view verdict (formula_steps (length view.ports) a + 1) k place 0
        (formula_size a + 1) (formula_code (place + 3) a ++ either ∷ []) stack ports acc has
        (one_length (formula_code (place + 3) a) either (formula_size a)
        (formula-length a (place + 3)))
        (λ n port within later. tail_ends code view verdict (formula_steps (length view.ports) a) n
        (place + 3) (formula_size a)
        (acc (suc port)) (formula_code (place + 3) a) either (acc port ∷ stack)
        (weigh (test port) ∷ (acc port ∷ stack)) stack (port ∷ ports)
        (formula-length a (place + 3))
        (ap (λ (n : ℕ). put n (state_at (place + 3 + formula_size a) stack (port ∷ ports)))
        (either_weighs (at_some test port) (test port)))
        (room_here (formula_height (Any a)) (formula_nesting (Any a)) stack ports room)
        (weigh_fits (at_some test (suc port)))
        (body_has code place 0 (formula_size a + 1) (formula_code (place + 3) a ++ either ∷ []) has)
        (formula_runs a (suc n) (place + 3) (acc port ∷ stack) (port ∷ ports) true fits within
        (room_inside (formula_height a) (formula_nesting a) (acc port) port stack ports room))
        later)
        (from_place code view verdict k (place + (formula_size a + 5))
        (place + (formula_size a + 1 + 4)) (acc (length view.ports) ∷ stack) ports
        (loop_place place (formula_size a)) ends)
        refl (omega arith) (room_here (formula_height (Any a)) (formula_nesting (Any a)) stack ports
        room) (omega (arith, room.of_ports))

    pub term_runs : (t : Term ℕ) (k place : ℕ) (stack ports : List ℕ) (inside : Bool)
        → TermFits count inside t → IsRound view inside ports
        → HasRoom (term_height t) (term_nesting t) stack ports
        → HasAt code place (term_code place t)
        → To code view verdict k (place + term_size t) (value view ports t ∷ stack) ports
        → To code view verdict (term_steps (length view.ports) t + k) place stack ports
    term_runs (Number n) k place stack ports inside fits round room has ends =
        atom_ends k place n stack ports (push n) has refl (room_here 0 0 stack ports room)
        (fits_top inside (Number n) stack ports fits room) ends
    term_runs Id k place stack ports inside fits round room has ends =
        atom_ends k place _ stack ports id has refl (room_here 0 0 stack ports room)
        (fits_top inside Id stack ports fits room) ends
    term_runs Mark k place stack ports inside fits round room has ends =
        atom_ends k place _ stack ports mark has refl (room_here 0 0 stack ports room)
        (fits_top inside Mark stack ports fits room) ends
    term_runs Num k place stack ports inside fits round room has ends =
        atom_ends k place _ stack ports num has refl (room_here 0 0 stack ports room)
        (fits_top inside Num stack ports fits room) ends
    term_runs Degree k place stack ports inside fits round room has ends =
        atom_ends k place _ stack ports degree has refl (room_here 0 0 stack ports room)
        (fits_top inside Degree stack ports fits room) ends
    term_runs Pointed k place stack ports inside fits round room has ends =
        atom_ends k place _ stack ports pointed has refl (room_here 0 0 stack ports room)
        (fits_top inside Pointed stack ports fits room) ends
    term_runs (My f) k place stack ports inside fits round room has ends =
        atom_ends k place _ stack ports (my f) has
        (field_puts count f view.own _ readable.own fits) (room_here 0 0 stack ports room)
        (fits_top inside (My f) stack ports fits room) ends
    term_runs (Up f) k place stack ports inside fits round room has ends =
        atom_ends k place _ stack ports (up f) has
        (above_puts count f (target view) _ (target_fits count view readable) fits)
        (room_here 0 0 stack ports room) (fits_top inside (Up f) stack ports fits room) ends
    term_runs UpWeight k place stack ports inside fits round room has ends =
        atom_ends k place _ stack ports up_weight has refl (room_here 0 0 stack ports room)
        (fits_top inside UpWeight stack ports fits room) ends
    term_runs (Nb f) k place stack ports inside fits round room has ends =
        let there = innermost_there view inside ports round fits.1 in
        atom_ends k place _ stack ports (nb f) has
        (beside_puts count f (innermost view ports) _ there.0 there.1
        (innermost_fits count view readable ports there.0 there.1) fits.0)
        (room_here 0 0 stack ports room) (fits_top inside (Nb f) stack ports fits room) ends
    term_runs NbWeight k place stack ports inside fits round room has ends =
        let there = innermost_there view inside ports round fits in
        atom_ends k place _ stack ports nb_weight has
        (if_port_puts (weight_at (innermost view ports)) (innermost view ports) _ there.0 there.1)
        (room_here 0 0 stack ports room) (fits_top inside NbWeight stack ports fits room) ends
    term_runs NbUp k place stack ports inside fits round room has ends =
        let there = innermost_there view inside ports round fits in
        atom_ends k place _ stack ports nb_up has
        (if_port_puts (weigh (is_pointed_at view ports)) (innermost view ports) _ there.0 there.1)
        (room_here 0 0 stack ports room) (fits_top inside NbUp stack ports fits room) ends
    term_runs (Add a b) k place stack ports inside fits round room has ends =
        let x : ℕ = value view ports a in
        let y : ℕ = value view ports b in
        pair_ends code view verdict (term_steps (length view.ports) a)
        (term_steps (length view.ports) b) k place (term_size a) (term_size b) x y (x + y)
        (term_code place a) (term_code (place + term_size a) b) add stack ports
        (term-length a place) (term-length b (place + term_size a)) refl
        (room_here (term_height (Add a b)) (term_nesting (Add a b)) stack ports room)
        (fits_top inside (Add a b) stack ports fits room) has
        (term_runs a (term_steps (length view.ports) b + suc k) place stack ports inside fits.0
        round
        (room_first (term_height a) (term_height b) (term_nesting a) (term_nesting b) stack ports
        room))
        (term_runs b (suc k) (place + term_size a) (x ∷ stack) ports inside fits.1 round
        (room_second (term_height a) (term_height b) (term_nesting a) (term_nesting b) x stack ports
        room)) ends
    term_runs (Sum a b) k place stack ports inside fits round room has ends =
        let test : ℕ → Bool = λ port. holds view (port ∷ ports) a in
        let number : ℕ → ℕ = λ port. value view (port ∷ ports) b in
        let acc : ℕ → ℕ = λ port. sum_where test number port in
        loop_ends code view verdict
        (formula_steps (length view.ports) a + term_steps (length view.ports) b + 2) k place 0
        (formula_size a + term_size b + 2)
        (formula_code (place + 3) a
        ++ (term_code (place + 3 + formula_size a) b ++ mask ∷ (add ∷ []))) stack ports acc has
        (sum_length (formula_code (place + 3) a) (term_code (place + 3 + formula_size a) b) mask add
        (formula_size a) (term_size b) (formula-length a (place + 3))
        (term-length b (place + 3 + formula_size a)))
        (λ n port within later. turn_ends n place (formula_size a) (term_size b)
        (formula_steps (length view.ports) a) (term_steps (length view.ports) b)
        (formula_code (place + 3) a) (term_code (place + 3 + formula_size a) b)
        (acc port) (test port) (number port) stack (port ∷ ports)
        (formula-length a (place + 3)) (term-length b (place + 3 + formula_size a))
        (omega (arith, room.on_stack))
        (below_top (number port) (term_height b + 14 * term_nesting b)
        (term_small count view readable true b (port ∷ ports) fits.1)
        (omega (arith, room.of_value)))
        (sum_fits a b ports (suc port) fits.1 (omega (arith, within, readable.degree))
        (omega (arith, room.of_value)))
        (body_has code place 0 (formula_size a + term_size b + 2) (formula_code (place + 3) a
        ++ (term_code (place + 3 + formula_size a) b ++ mask ∷ (add ∷ []))) has)
        (formula_runs a (term_steps (length view.ports) b + suc (suc n)) (place + 3)
        (acc port ∷ stack) (port ∷ ports) true fits.0 within
        (room_where (formula_height a) (term_height b) (formula_nesting a) (term_nesting b)
        (acc port)
        port stack ports room))
        (term_runs b (suc (suc n)) (place + 3 + formula_size a)
        (weigh (test port) ∷ (acc port ∷ stack)) (port ∷ ports) true fits.1 within
        (room_summed (formula_height a) (term_height b) (formula_nesting a) (term_nesting b)
        (acc port) (weigh (test port)) port stack ports room)) later)
        (from_place code view verdict k (place + (formula_size a + term_size b + 6))
        (place + (formula_size a + term_size b + 2 + 4)) (acc (length view.ports) ∷ stack) ports
        (sum_place place (formula_size a) (term_size b)) ends)
        refl (omega arith) (room_here (term_height (Sum a b)) (term_nesting (Sum a b)) stack ports
        room) (omega (arith, room.of_ports))
