use Rattle.std.proofs.Common.{false}
use Rattle.pls_rules.specs.HeldTrees.{formula_of}
use Rattle.pls_rule_text.specs.FieldNames.{name_at, names_of}
use Rattle.pls_rule_text.specs.laws.PrintLaws.{named_again, named_fits, named_refusal, text-with}
use Rattle.pls_rule_text.proofs.laws.printed_rule.Goals as goal

pub returns-clause-text : goal.returns-clause-text
returns-clause-text c = text-with (name_at (names_of c.args.fields.now)) (formula_of c.args.rule.now)

pub returns-clause-fits : goal.returns-clause-fits
returns-clause-fits c =
    named_fits (names_of c.args.fields.now) c.requires.names (formula_of c.args.rule.now)
    c.requires.rule c.requires.few

pub returns-clause-sense : goal.returns-clause-sense
returns-clause-sense c =
    named_refusal (names_of c.args.fields.now) c.requires.distinct (formula_of c.args.rule.now)
    c.requires.rule

pub returns-clause-again : goal.returns-clause-again
returns-clause-again c =
    named_again (names_of c.args.fields.now) c.requires.distinct false (formula_of c.args.rule.now)
    c.requires.rule.fits
