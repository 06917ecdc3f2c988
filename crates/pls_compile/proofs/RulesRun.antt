-- The run of a set's code comes to the verdict that its rules judge.
use Rattle.std.proofs.Common.{◌≡◌, ℕ, suc, ◌+◌, Bool, true, false, List, [], ◌∷◌, length, Option, refl, sym, ap, ◌∙◌, arith}
use Rattle.std.specs.Prelude.{All, if◌then◌else◌}
use Rattle.std.proofs.lemmas.List.Elements.{All-head, All-tail}
use Rattle.pls_configuration.specs.declared.verdict.Verdict.{Verdict}
use Rattle.pls_configuration.specs.declared.verdict.Verdict.TheVariants.{Reject}
use Rattle.pls_bits.specs.Bytes.{weigh}
use Rattle.pls_scheme.specs.Judging.{judged_from}
use Rattle.pls_rules.specs.Formula.{Formula, formula_height, formula_nesting}
use Rattle.pls_rules.specs.RuleSet.{IsRule}
use Rattle.pls_compile.specs.declared.instr.Instr.{Instr}
use Rattle.pls_compile.specs.declared.instr.Instr.TheVariants.{Rule as rule}
use Rattle.pls_compile.specs.Code.{code_of_rules, formula_code, formula_size, rules_code}
use Rattle.pls_compile.specs.Readable.{IsReadable}
use Rattle.pls_compile.specs.RuleMeaning.{Sight, holds, rules_hold}
use Rattle.pls_compile.specs.RuleMachine.{state_at, Answers, act_if, after_step, run}
use Rattle.pls_compile.proofs.Steps.{rules_steps}
use Rattle.pls_compile.proofs.Ends.{Ends, To, by_instr, longer}
use Rattle.pls_compile.proofs.CodePlaces.{HasAt, has_all, has_back, has_front, has_moved}
use Rattle.pls_compile.proofs.Sizes.{formula-length}
use Rattle.pls_compile.proofs.Rooms.{HasRoom}
use Rattle.pls_compile.proofs.Runs.{formula_runs}

module _ (code : List Instr) (view : Sight) (verdict : Verdict) (count : ℕ)
    (readable : IsReadable count view) where
  -- the code of rules comes to the verdict that they judge
  pub rules_run : (rules : List (Formula ℕ)) (place number : ℕ) → All (IsRule count) rules
      → verdict ≡ judged_from number (rules_hold rules view)
      → HasAt code place (rules_code place number rules)
      → To code view verdict (rules_steps (length view.ports) rules) place [] []
  rules_run [] place number each is has = record {
    count = 1;
    within = omega arith;
    answers = ap (λ (found : Option Instr). after_step (run code view 0)
        (act_if view found (state_at place [] []))) has.0 ∙ ap Answers (sym is);
  }
  rules_run (first ∷ others) place number each is has =
      let rest = rules_code (place + formula_size first + 1) (number + 1) others in
      let here = All-head (IsRule count) first others each in
      let later = All-tail (IsRule count) first others each in
      let behind = has_moved code (place + length (formula_code place first))
      (place + formula_size first) (rule number ∷ rest)
      (ap (λ (n : ℕ). place + n) (formula-length first place))
      (has_back code place (formula_code place first) (rule number ∷ rest) has) in
      let room : HasRoom (formula_height first) (formula_nesting first) [] [] = record {
        on_stack = omega (arith, here.shallow, here.nested);
        of_ports = omega (arith, here.nested);
        of_value = omega (arith, here.shallow, here.nested);
      } in
      formula_runs code view verdict count readable first
      (rules_steps (length view.ports) others + 1) place [] [] false here.fits refl
      room (has_front code place (formula_code place first) (rule number ∷ rest) has)
      (by (holds view [] first) is behind
      (λ same. rules_run others (place + formula_size first + 1) (number + 1) later same behind.1))
    where
      by : (b : Bool)
          → verdict ≡ (if b then judged_from (number + 1) (rules_hold others view)
          else Reject 1 number)
          → HasAt code (place + formula_size first) (rule number
          ∷ rules_code (place + formula_size first + 1) (number + 1) others)
          → (verdict ≡ judged_from (number + 1) (rules_hold others view)
          → To code view verdict (rules_steps (length view.ports) others)
          (place + formula_size first + 1) [] [])
          → To code view verdict (rules_steps (length view.ports) others + 1)
          (place + formula_size first) (weigh b ∷ []) []
      by true same behind go =
          longer code view verdict (suc (rules_steps (length view.ports) others))
          (rules_steps (length view.ports) others + 1) (place + formula_size first) (1 ∷ []) []
          (omega arith)
          (by_instr code view verdict (rules_steps (length view.ports) others)
          (place + formula_size first) (place + formula_size first + 1) (1 ∷ []) [] [] []
          (rule number) behind.0 refl (go same))
      by false same behind go = record {
        count = 1;
        within = omega arith;
        answers = ap (λ (found : Option Instr). after_step (run code view 0)
            (act_if view found (state_at (place + formula_size first) (0 ∷ []) []))) behind.0
            ∙ ap Answers (sym same);
      }

-- the code of a set comes to the verdict that its rules judge
pub set_ends : (rules : List (Formula ℕ)) (count : ℕ) (view : Sight) → IsReadable count view
    → All (IsRule count) rules
    → Ends (code_of_rules rules) view (judged_from 3 (rules_hold rules view))
    (rules_steps (length view.ports) rules) 0 [] []
set_ends rules count view readable each =
    rules_run (code_of_rules rules) view (judged_from 3 (rules_hold rules view)) count readable rules 0 3
    each refl (has_all (code_of_rules rules) [])
