use Rattle.std.proofs.Common.{◌∙◌}
use Rattle.pls_rules_part.proofs.FieldNames.{name_is_text}
use Rattle.pls_rules_part.proofs.rule_adding.name_of_letters.Goals as goal

pub returns : goal.returns
returns c =
    c.of_text.ensures ∙ c.in_ok-text.ensures.ok (name_is_text c.args.letters.now c.requires.name_of)
