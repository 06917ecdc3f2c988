use Rattle.std.specs.String.{string_bytes}
use Rattle.pls_rules_part.specs.inner.Printed.{printed_field}
use Rattle.pls_rules_part.proofs.Printed.{line_more}
use Rattle.pls_rules_part.proofs.rules_print.print_fields.Goals as goal

pub loop-field-preserved : goal.loop-field-preserved
loop-field-preserved c =
    line_more printed_field c.args.fields.now c.loop-field.field-index c.field-item.result
    (string_bytes c.args.text.now) _ _ c.loop-field-test.true c.field-item.is
    c.loop-field.invariant c.in_ok-print_field.ensures
