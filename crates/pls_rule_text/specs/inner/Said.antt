-- What a text says as a rule, read from the left.
use Rattle.std.specs.Prelude.{ℕ, ◌&&◌, ◌||◌, ◌==◌, nat_le, nat_lt, Bool, List, length, if◌then◌else◌}
use Rattle.std.specs.Char.{is_ascii_digit}
use Rattle.std.specs.List.{list_all}
use Rattle.std.specs.Option.{is_some, option_map_or}
use Rattle.pls_fronts.specs.Depth.{deepest}
use Rattle.pls_fronts.specs.LetterFront.{is_letter}
use Rattle.pls_rule_text.specs.RuleText.{Deep, RuleSaid, Shallow}
use Rattle.pls_rule_text.specs.inner.Fronts.{formula_in}

-- the formula that is the whole of the text, or else nothing but its characters
abbrev pub rule_said : List ℕ → RuleSaid
rule_said text = option_map_or Shallow (formula_in text) (Deep text)

-- the characters of rules
abbrev pub is_character : ℕ → Bool
is_character character =
    is_letter character || (is_ascii_digit character || (character == 46 || (character == 44
    || (character == 40 || character == 41))))

-- the text is that of a rule
abbrev pub is_rule : List ℕ → Bool
is_rule text =
    nat_le (length text) 4096
    && (if nat_lt 31 (deepest 0 text) then list_all is_character text
    else is_some (formula_in text))
