use Rattle.pls_lines.proofs.WholeTexts.{one_first_fault}
use Rattle.pls_rules_part.specs.RulesScan.{IsRulesPart}
use Rattle.pls_rules_part.proofs.laws.one_first_fault.Goals as goal

pub returns : goal.returns
returns c = one_first_fault IsRulesPart
