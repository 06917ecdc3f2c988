use Rattle.std.proofs.Common.{IfOk, subst}
use Rattle.pls_bits.specs.Gamma.{gamma_takes}
use Rattle.pls_compile.specs.RuleMeaning.{meaning}
use Rattle.pls_rules.specs.declared.rule_set.RuleSet.{RuleSet}
use Rattle.pls_rules.specs.HeldTrees.{set_of}
use Rattle.pls_app.specs.inner.Tasks.{DoesSplice}
use Rattle.pls_app.proofs.ruled.splice_by_rules.Goals as goal

pub returns-clause-does : goal.returns-clause-does
returns-clause-does c =
    subst (λ (set : RuleSet). IfOk c.splice.result
    (DoesSplice (meaning gamma_takes (set_of set)) c.args.code c.args.net c.args.labels))
    c.in_ok-checker.ensures c.splice.ensures.does
