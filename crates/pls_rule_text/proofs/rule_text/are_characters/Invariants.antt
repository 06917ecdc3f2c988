use Rattle.std.proofs.Common.{◌≡◌, drop}
use Rattle.std.specs.List.{list_all}
use Rattle.pls_rule_text.specs.inner.Said.{is_character}
use Rattle.pls_rule_text.proofs.rule_text.are_characters.Given as goal

-- all characters so far are those of rules, and so whether all are is said by what is left
abbrev pub invariant-loop-character : goal.invariant-loop-character
invariant-loop-character l =
    list_all is_character l.text ≡ list_all is_character (drop l.character-index l.text)
