use Rattle.pls_rules_part.proofs.Taken.{field_begins, field_counts, field_refused, rule_begins, rule_counts, rule_refused}
use Rattle.pls_rules_part.proofs.rules_tally.RulesTallyListTally.take.Goals as goal

pub returns-then-is_field-clause-begun : goal.returns-then-is_field-clause-begun
returns-then-is_field-clause-begun c =
    field_begins c.take_field.result c.args.self.now c.args.item.now c.if-is_field.ensures
    c.requires c.take_field.ensures.first c.take_field.ensures.room

pub returns-then-is_field-clause-counted : goal.returns-then-is_field-clause-counted
returns-then-is_field-clause-counted c =
    field_counts c.take_field.result c.args.self.now c.take_field.new.self c.args.item.now
    c.if-is_field.ensures c.take_field.ensures.fields c.take_field.ensures.rules

pub returns-then-is_field-clause-other : goal.returns-then-is_field-clause-other
returns-then-is_field-clause-other c =
    field_refused c.take_field.result c.args.self.now c.args.item.now c.if-is_field.ensures
    c.take_field.ensures.other

pub returns-else-is_field-clause-begun : goal.returns-else-is_field-clause-begun
returns-else-is_field-clause-begun c =
    rule_begins c.take_rule.result c.args.self.now c.args.item.now c.if-is_field.ensures
    c.requires c.take_rule.ensures.some c.take_rule.ensures.room

pub returns-else-is_field-clause-counted : goal.returns-else-is_field-clause-counted
returns-else-is_field-clause-counted c =
    rule_counts c.take_rule.result c.args.self.now c.take_rule.new.self c.args.item.now
    c.if-is_field.ensures c.take_rule.ensures.fields c.take_rule.ensures.rules

pub returns-else-is_field-clause-other : goal.returns-else-is_field-clause-other
returns-else-is_field-clause-other c =
    rule_refused c.take_rule.result c.args.self.now c.args.item.now c.if-is_field.ensures
    c.take_rule.ensures.other
