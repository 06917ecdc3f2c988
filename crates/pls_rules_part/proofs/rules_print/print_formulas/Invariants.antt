use Rattle.std.proofs.Common.{◌≡◌, ◌++◌, map, take}
use Rattle.std.specs.String.{string_bytes}
use Rattle.pls_lines.specs.Text.{text_of}
use Rattle.pls_rule_text.specs.FieldNames.{names_of}
use Rattle.pls_rules_part.specs.inner.Printed.{printed_rule}
use Rattle.pls_rules_part.proofs.rules_print.print_formulas.Given as goal

abbrev pub invariant-loop-rule : goal.invariant-loop-rule
invariant-loop-rule l =
    string_bytes l.text ≡ string_bytes l.fn.text
    ++ text_of (map (printed_rule (names_of l.fields)) (take l.rule-index l.rules))
