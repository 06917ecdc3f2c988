use Rattle.std.proofs.Common.{Some, None}
use Rattle.pls_rules.specs.HeldTrees.{formula_of}
use Rattle.pls_rule_text.specs.FieldNames.{names_of}
use Rattle.pls_rule_text.proofs.Reading.{deep_refused, formula_said, refused_as_said, tree_said}
use Rattle.pls_rule_text.proofs.rule_text.read_rule.Goals as goal

pub returns-then-is_deeper-clause-refused : goal.returns-then-is_deeper-clause-refused
returns-then-is_deeper-clause-refused c =
    deep_refused (names_of c.args.fields.now) c.args.text.now c.if-is_deeper.ensures

pub tree_in-requires-clause-rule : goal.tree_in-requires-clause-rule
tree_in-requires-clause-rule c =
    formula_said c.args.text.now c.if-is_deeper.ensures c.requires.rule.rule c.requires.rule.fits
    c.requires.rule.written

pub returns-in-Some-clause-refused : goal.returns-in-Some-clause-refused
returns-in-Some-clause-refused c =
    refused_as_said c.args.fields.now c.args.text.now (formula_of c.in_ok-tree.tree)
    (Some c.in-Some.number) c.in_ok-tree.ensures c.in-Some.ensures

pub returns-in-None-clause-ok : goal.returns-in-None-clause-ok
returns-in-None-clause-ok c =
    tree_said (names_of c.args.fields.now) c.args.text.now (formula_of c.in_ok-tree.tree)
    c.in_ok-tree.ensures

pub returns-in-None-clause-sense : goal.returns-in-None-clause-sense
returns-in-None-clause-sense c =
    refused_as_said c.args.fields.now c.args.text.now (formula_of c.in_ok-tree.tree) None
    c.in_ok-tree.ensures c.in-None.ensures
