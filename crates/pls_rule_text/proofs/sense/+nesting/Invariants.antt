use Rattle.pls_rules.specs.Formula.{formula_height, term_height}
use Rattle.pls_rules.specs.HeldTrees.{formula_of, term_of}
use Rattle.pls_rule_text.proofs.sense.+nesting.Given as goal

-- each part is less high
abbrev pub decreases-nesting_of : goal.decreases-nesting_of
decreases-nesting_of l = formula_height (formula_of l.formula.now)

abbrev pub decreases-term_nesting : goal.decreases-term_nesting
decreases-term_nesting l = term_height (term_of l.term.now)
