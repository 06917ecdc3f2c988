use Rattle.pls_rule_text.specs.laws.RuleLaws.{one_rule, rule_lacks_blank, rule_lacks_line_feed, rule_said-text, rule_some}
use Rattle.pls_rule_text.proofs.laws.one_rule.Goals as goal

pub returns-clause-said : goal.returns-clause-said
returns-clause-said c = rule_said-text

pub returns-clause-one : goal.returns-clause-one
returns-clause-one c = one_rule

pub returns-clause-some : goal.returns-clause-some
returns-clause-some c = rule_some

pub returns-clause-line : goal.returns-clause-line
returns-clause-line c = rule_lacks_line_feed

pub returns-clause-whole : goal.returns-clause-whole
returns-clause-whole c = rule_lacks_blank
