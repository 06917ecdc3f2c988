-- What is counted of the lines of a rules part while they are passed.
use Rattle.std.specs.Prelude.{ℕ, ◌+◌, Bool, true, false, List, [], ◌∷◌}
use Rattle.pls_rules_part.specs.RulesScan.{FieldWords, LineWords, RuleBytes}
use Rattle.pls_rules_part.specs.declared.rules_tally.RulesTally.{RulesTally}

-- the line tells a field
abbrev pub is_field : LineWords → Bool
is_field (FieldWords field) = true
is_field (RuleBytes text) = false

-- how many lines tell a field, and how many a rule
abbrev pub fields_in : List LineWords → ℕ
fields_in [] = 0
fields_in (FieldWords field ∷ lines) = 1 + fields_in lines
fields_in (RuleBytes text ∷ lines) = fields_in lines

abbrev pub rules_in : List LineWords → ℕ
rules_in [] = 0
rules_in (FieldWords field ∷ lines) = rules_in lines
rules_in (RuleBytes text ∷ lines) = 1 + rules_in lines

-- both
abbrev pub rules_tally : List LineWords → RulesTally
rules_tally lines = record { fields = fields_in lines; rules = rules_in lines }
