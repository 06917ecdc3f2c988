use Rattle.std.specs.String.{string_bytes}
use Rattle.pls_rule_text.specs.FieldNames.{names_of}
use Rattle.pls_rules_part.specs.inner.Printed.{printed_rule}
use Rattle.pls_rules_part.proofs.Printed.{line_more}
use Rattle.pls_rules_part.proofs.rules_print.print_formulas.Goals as goal

pub loop-rule-preserved : goal.loop-rule-preserved
loop-rule-preserved c =
    line_more (printed_rule (names_of c.args.fields.now)) c.args.rules.now c.loop-rule.rule-index
    c.rule-item.result (string_bytes c.args.text.now) _ _ c.loop-rule-test.true c.rule-item.is
    c.loop-rule.invariant c.in_ok-print_formula.ensures
