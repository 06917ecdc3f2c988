-- What a step needs that is not stuck.
use Rattle.std.proofs.Common.{◌≡◌, ℕ, suc, ◌<◌, ◌≤◌, List, [], length, sym, subst, arith}
use Rattle.pls_compile.specs.declared.instr.Instr.{Instr}
use Rattle.pls_compile.specs.RuleMeaning.{Sight}
use Rattle.pls_compile.specs.RuleMachine.{MachineState, Goes, Answers, IsAble, IsReached, run, start, step}
use Rattle.pls_compile.specs.Code.{code_of_rules}
use Rattle.pls_compile.specs.Readable.{IsReadable}
use Rattle.pls_scheme.specs.Judging.{judged_from}
use Rattle.pls_compile.specs.RuleMeaning.{rules_hold}
use Rattle.pls_rules.specs.Formula.{Formula}
use Rattle.pls_rules.specs.RuleSet.{IsRule}
use Rattle.std.specs.Prelude.{All}
use Rattle.pls_compile.proofs.Steps.{rules_steps}
use Rattle.pls_configuration.specs.declared.verdict.Verdict.{Verdict}
use Rattle.pls_compile.proofs.ReachedStates.{able, answers_same, behind, steps_left, steps_fall, one_more}
use Rattle.pls_compile.proofs.Ends.{Ends}
use Rattle.pls_compile.proofs.RulesRun.{set_ends}

module _ (rules : List (Formula ℕ)) (count : ℕ) (view : Sight) (readable : IsReadable count view)
    (each : All (IsRule count) rules) (code : List Instr) (code_is : code ≡ code_of_rules rules)
    (state : MachineState) (reached : IsReached code view state) where
  -- the verdict of the rules, and how many steps the run makes at most
  abbrev verdict : Verdict
  verdict = judged_from 3 (rules_hold rules view)

  abbrev most : ℕ
  most = rules_steps (length view.ports) rules

  -- what is steps_left of the run
  rest : (k : ℕ) × (k ≤ most) × (run code view k state ≡ Answers verdict)
  rest =
      let whole = subst (λ (code : List Instr). Ends code view verdict most 0 [] []) (sym code_is)
      (set_ends rules count view readable each) in
      let found = behind code view reached.0 start state reached.1 whole.count verdict whole.answers
      in
      (found.0, omega (arith, found.1, whole.within), found.2)

  -- the machine is not stuck there
  pub reached_able : IsAble (step code view state)
  reached_able = able code view rest.0 state verdict rest.2

  -- if it answers, it is the verdict
  pub reached_verdict : (found : Verdict) → step code view state ≡ Answers found → found ≡ verdict
  reached_verdict found is = answers_same code view rest.0 state verdict found rest.2 is

  -- else fewer steps are steps_left
  pub reached_falls : (next : MachineState) → step code view state ≡ Goes next
      → steps_left code view most next < steps_left code view most state
  reached_falls next is = steps_fall code view rest.0 most state next verdict rest.2 rest.1 is

  -- and the next state is reached
  pub reached_next : (next : MachineState) → step code view state ≡ Goes next
      → IsReached code view next
  reached_next next is = (suc reached.0, one_more code view reached.0 start state next reached.1 is)
