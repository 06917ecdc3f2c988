-- The lines that are printed of a rule set.
use Rattle.std.specs.Prelude.{ℕ, List, [], ◌∷◌, codes}
use Rattle.pls_lines.specs.Text.{line_of}
use Rattle.pls_rules.specs.HeldTrees.{formula_of}
use Rattle.pls_rules.specs.declared.expr.BoolExpr.{BoolExpr}
use Rattle.pls_rules.specs.declared.field.Field.{Field}
use Rattle.pls_rule_text.specs.FieldNames.{name_at}
use Rattle.pls_rule_text.specs.FormulaText.{formula_text}
use Rattle.pls_rules_part.specs.RulesText.{OfField, rule_line}

-- of a field, and of a rule over fields with these names
abbrev pub printed_field : Field → List ℕ
printed_field field = rule_line (OfField field)

abbrev pub printed_rule : List (List ℕ) → BoolExpr → List ℕ
printed_rule names rule =
    line_of (codes "rule" ∷ formula_text (name_at names) (formula_of rule) ∷ [])
