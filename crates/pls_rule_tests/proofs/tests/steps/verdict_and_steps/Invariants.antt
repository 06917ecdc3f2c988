use Rattle.pls_compile.specs.ReadLabels.{sight_of}
use Rattle.pls_compile.specs.RuleMachine.{IsReached}
use Rattle.pls_rule_tests.proofs.tests.steps.verdict_and_steps.Given as goal

-- the machine is on its way from the start
abbrev pub invariant-loop-count : goal.invariant-loop-count
invariant-loop-count l = IsReached l.code (sight_of l.kinds l.view) l.machine
