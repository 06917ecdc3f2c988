use Rattle.std.proofs.Common.{◌≡◌, ◌++◌, map, take}
use Rattle.std.specs.String.{string_bytes}
use Rattle.pls_lines.specs.Text.{text_of}
use Rattle.pls_rules_part.specs.inner.Printed.{printed_field}
use Rattle.pls_rules_part.proofs.rules_print.print_fields.Given as goal

abbrev pub invariant-loop-field : goal.invariant-loop-field
invariant-loop-field l =
    string_bytes l.text
    ≡ string_bytes l.fn.text ++ text_of (map printed_field (take l.field-index l.fields))
