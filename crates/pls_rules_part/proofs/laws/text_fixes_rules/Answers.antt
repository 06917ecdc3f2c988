use Rattle.pls_rules_part.proofs.RulesParts.{one_rules}
use Rattle.pls_rules_part.proofs.laws.text_fixes_rules.Goals as goal

pub returns : goal.returns
returns c = one_rules
