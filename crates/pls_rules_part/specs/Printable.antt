-- Rule sets that are read back from what is printed of them.
use Rattle.std.specs.Prelude.{◌≤◌, All, length}
use Rattle.pls_rules.specs.RuleSet.{AreRules, Rules}
use Rattle.pls_rule_text.specs.FieldNames.{NamesDiffer, name_at, names_of}
use Rattle.pls_rule_text.specs.FormulaText.{IsFieldName, formula_text}

-- there are fields, whose names differ and are those of fields; and the set makes sense, each rule
-- in at most 4096 characters
pub record IsPrintable (set : Rules) : Type 0 where
  pub some : 1 ≤ length set.fields
  pub names : All IsFieldName (names_of set.fields)
  pub distinct : NamesDiffer (names_of set.fields)
  pub are : AreRules set
  pub short : All (λ rule. length (formula_text (name_at (names_of set.fields)) rule) ≤ 4096)
      set.rules
