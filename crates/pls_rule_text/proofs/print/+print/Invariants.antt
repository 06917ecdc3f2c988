use Rattle.std.proofs.Common.{◌+◌, ◌*◌, max}
use Rattle.pls_rules.specs.Formula.{formula_height, term_height}
use Rattle.pls_rules.specs.HeldTrees.{formula_of, term_of}
use Rattle.pls_rule_text.proofs.print.+print.Given as goal

-- each is twice the height, and a call that hands its parts on is one more
abbrev pub decreases-print_rule : goal.decreases-print_rule
decreases-print_rule l = 2 * formula_height (formula_of l.rule.now)

abbrev pub decreases-print_term : goal.decreases-print_term
decreases-print_term l = 2 * term_height (term_of l.term.now)

abbrev pub decreases-print_terms : goal.decreases-print_terms
decreases-print_terms l =
    2 * max (term_height (term_of l.first.now)) (term_height (term_of l.second.now)) + 1

abbrev pub decreases-print_rules : goal.decreases-print_rules
decreases-print_rules l =
    2 * max (formula_height (formula_of l.first.now)) (formula_height (formula_of l.second.now)) + 1

abbrev pub decreases-print_one : goal.decreases-print_one
decreases-print_one l = 2 * formula_height (formula_of l.inner.now) + 1
