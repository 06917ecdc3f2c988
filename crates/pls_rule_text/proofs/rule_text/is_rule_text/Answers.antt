use Rattle.std.proofs.Common.{◌∙◌, sym}
use Rattle.pls_rule_text.specs.laws.RuleLaws.{rule_is, rule_passes}
use Rattle.pls_rule_text.proofs.rule_text.is_rule_text.Goals as goal

pub returns : goal.returns
returns c = (
  λ yes. rule_is c.args.text.now (sym c.is_rule.ensures ∙ yes),
  λ is. c.is_rule.ensures ∙ rule_passes c.args.text.now is,
)
