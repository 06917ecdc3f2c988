use Rattle.std.proofs.Common.{◌∙◌, sym}
use Rattle.pls_rules_part.proofs.FieldNames.{field_name, name_passes}
use Rattle.pls_rules_part.proofs.field_line.is_field_name.Goals as goal

pub returns : goal.returns
returns c = (
  λ test. field_name c.args.word.now (sym c.is_name.ensures ∙ test) c.if-is_same.ensures.1
      c.if-is_same-2.ensures.1,
  λ is. c.is_name.ensures ∙ name_passes c.args.word.now is.name_of,
)
