-- What the words of a line are, where they are lent.
use Rattle.pls_rules_part.specs.RulesScan.{FieldWords, LineWords, RuleBytes}
use Rattle.pls_rules_part.specs.declared.rule_words.Words.{Words}
use Rattle.pls_rules_part.specs.declared.rule_words.Words.TheVariants.{Field, Rule}

abbrev pub words_lent : Words → LineWords
words_lent (Field name kind) = FieldWords (record { name = name.now; kind = kind })
words_lent (Rule text) = RuleBytes text.now
