use Rattle.std.proofs.Common.{◌+◌, ◌*◌, max}
use Rattle.pls_rules.specs.Formula.{formula_height, term_height}
use Rattle.pls_rules.specs.HeldTrees.{formula_of, term_of}
use Rattle.pls_rule_text.proofs.sense.+placed.Given as goal

-- each is twice the height, and a call that hands its terms on is one more
abbrev pub decreases-is_placed : goal.decreases-is_placed
decreases-is_placed l = 2 * formula_height (formula_of l.formula.now)

abbrev pub decreases-are_placed : goal.decreases-are_placed
decreases-are_placed l =
    2 * max (term_height (term_of l.first.now)) (term_height (term_of l.second.now)) + 1

abbrev pub decreases-is_term_placed : goal.decreases-is_term_placed
decreases-is_term_placed l = 2 * term_height (term_of l.term.now)
