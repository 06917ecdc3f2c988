use Rattle.std.proofs.Common.{length}
use Rattle.pls_compile.specs.RuleMachine.{IsReached}
use Rattle.pls_compile.proofs.Steps.{rules_steps}
use Rattle.pls_compile.proofs.ReachedStates.{steps_left}
use Rattle.pls_rules.specs.HeldTrees.{set_of}
use Rattle.pls_compile.proofs.run.run_code.Given as goal

-- the machine is on its way from the start
abbrev pub invariant-loop-verdict : goal.invariant-loop-verdict
invariant-loop-verdict g l = IsReached l.code (g.S.Sees.sight l.node) l.machine

-- the steps that are steps_left
abbrev pub decreases-loop-verdict : goal.decreases-loop-verdict
decreases-loop-verdict g l =
    steps_left l.code (g.S.Sees.sight l.node)
    (rules_steps (length (g.S.Sees.sight l.node).ports) (set_of l.set).rules) l.machine
