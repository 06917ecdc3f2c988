use Rattle.std.proofs.Common.{◌≡◌, false, IfOk, subst}
use Rattle.pls_bits.specs.Gamma.{gamma_takes}
use Rattle.pls_compile.specs.RuleMeaning.{meaning}
use Rattle.pls_rules.specs.declared.rule_set.RuleSet.{RuleSet}
use Rattle.pls_rules.specs.HeldTrees.{set_of}
use Rattle.pls_app.specs.Answer.{report_answer}
use Rattle.pls_app.specs.Reports.{decided_by}
use Rattle.pls_app.proofs.ruled.judge.Goals as goal

pub returns-clause-reports : goal.returns-clause-reports
returns-clause-reports c =
    subst (λ (set : RuleSet). IfOk c.verify.result (λ answer. answer ≡ report_answer c.args.form false
    c.args.net.now c.args.parts.now
    (decided_by (meaning gamma_takes (set_of set)) c.args.net.now c.args.labels.now)))
    c.in_ok-checker.ensures c.verify.ensures.reports
