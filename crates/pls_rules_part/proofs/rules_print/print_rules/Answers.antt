use Rattle.std.proofs.Common.{◌∙◌, ◌++◌, List, map, ap}
use Rattle.std.specs.String.{string_bytes}
use Rattle.pls_lines.specs.Text.{text_of}
use Rattle.pls_rules.specs.declared.expr.BoolExpr.{BoolExpr}
use Rattle.pls_rules.specs.declared.field.Field.{Field}
use Rattle.pls_rule_text.specs.FieldNames.{names_of}
use Rattle.pls_rules_part.specs.inner.Printed.{printed_field, printed_rule}
use Rattle.pls_rules_part.proofs.Printed.{set_printed}
use Rattle.pls_rules_part.proofs.rules_print.print_rules.Goals as goal

pub returns : goal.returns
returns c =
    let heading = string_bytes c.in_ok-text.text in
    let fields = string_bytes c.print_fields.new.text in
    ap (λ text. text.items) c.into_bytes.ensures.value
    ∙ set_printed c.args.set.now heading fields (string_bytes c.print_formulas.new.text)
    (string_bytes c.push_str.new.self) c.in_ok-text.ensures.ok
    (c.in_ok-print_fields.ensures
    ∙ ap (λ (list : List Field). heading ++ text_of (map printed_field list)) c.deref.ensures.value)
    (c.in_ok-print_formulas.ensures
    ∙ ap (λ (list : List Field). fields ++ text_of (map (printed_rule (names_of list))
    c.deref-3.result.now)) c.deref-2.ensures.value
    ∙ ap (λ (list : List BoolExpr). fields
    ++ text_of (map (printed_rule (names_of c.args.set.now.fields.items)) list))
    c.deref-3.ensures.value)
    c.in_ok-push_str.ensures.bytes
