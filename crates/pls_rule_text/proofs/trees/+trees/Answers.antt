use Rattle.std.proofs.Common.{arith}
use Rattle.pls_fronts.specs.Front.{followed}
use Rattle.pls_rule_text.proofs.Levels.{at_comparison, at_junction, at_modifier, at_port_sum, at_sum, nothing_made}
use Rattle.pls_rule_text.specs.FieldNames.{names_of}
use Rattle.pls_rule_text.specs.inner.Held.{placed_term}
use Rattle.pls_rule_text.proofs.trees.+trees.Goals as goal

pub formula_front-returns-in-Some : goal.formula_front-returns-in-Some
formula_front-returns-in-Some t c =
    rw (at_comparison c.args.below c.args.text.now
    (followed c.in-Some.comparison c.in-Some.rest.now) (omega (arith, c.if-below-eq0.false))
    (c.in-Some.ensures)) c.behind_comparison.ensures

pub formula_front-returns-in-Some-junction_front :
    goal.formula_front-returns-in-Some-junction_front
formula_front-returns-in-Some-junction_front t c =
    rw (at_junction c.args.below c.args.text.now
    (followed c.in-Some-junction_front.junction c.in-Some-junction_front.rest.now)
    (omega (arith, c.if-below-eq0.false)) (c.in_default.ensures)
    (c.in-Some-junction_front.ensures)) c.behind_junction.ensures

pub formula_front-returns-in-Some-modifier_front :
    goal.formula_front-returns-in-Some-modifier_front
formula_front-returns-in-Some-modifier_front t c =
    rw (at_modifier c.args.below c.args.text.now
    (followed c.in-Some-modifier_front.modifier c.in-Some-modifier_front.rest.now)
    (omega (arith, c.if-below-eq0.false)) (c.in_default.ensures)
    (c.in_default-junction_front.ensures)
    (c.in-Some-modifier_front.ensures)) c.behind_modifier.ensures

pub term_front-returns-in-Some-after : goal.term_front-returns-in-Some-after
term_front-returns-in-Some-after t c =
    rw (at_sum c.args.below c.args.text.now c.in-Some-after.rest.now
    (omega (arith, c.if-below-eq0.false)) (nothing_made (placed_term (names_of c.args.fields.now)) _ (c.in_default.ensures))
    (c.in-Some-after.ensures)) c.behind_add.ensures

pub term_front-returns-in-Some-after-2 : goal.term_front-returns-in-Some-after-2
term_front-returns-in-Some-after-2 t c =
    rw (at_port_sum c.args.below c.args.text.now c.in-Some-after-2.rest.now
    (omega (arith, c.if-below-eq0.false)) (nothing_made (placed_term (names_of c.args.fields.now)) _ (c.in_default.ensures))
    (c.in_default-after.ensures)
    (c.in-Some-after-2.ensures)) c.behind_sum.ensures
