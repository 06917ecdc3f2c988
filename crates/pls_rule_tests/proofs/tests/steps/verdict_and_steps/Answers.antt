use Rattle.std.proofs.Common.{suc}
use Rattle.pls_compile.specs.ReadLabels.{sight_of}
use Rattle.pls_compile.specs.RuleMachine.{start}
use Rattle.pls_compile.proofs.ReachedStates.{one_more}
use Rattle.pls_rule_tests.proofs.tests.steps.verdict_and_steps.Goals as goal

pub loop-count-preserved : goal.loop-count-preserved
loop-count-preserved c =
    let reached = c.loop-count.invariant in (
      suc reached.0,
      one_more c.args.code.now (sight_of c.args.kinds.now c.args.view.now) reached.0
          start c.loop-count.machine c.step.new.self reached.1 c.in_default.ensures,
    )
