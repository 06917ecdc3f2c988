use Rattle.std.proofs.Common.{◌+◌, ◌*◌}
use Rattle.pls_rule_text.proofs.trees.+trees.Given as goal

-- each is twice the levels below it, and one more where the opening has been passed
abbrev pub decreases-formula_front : goal.decreases-formula_front
decreases-formula_front l = 2 * l.below

abbrev pub decreases-term_front : goal.decreases-term_front
decreases-term_front l = 2 * l.below

abbrev pub decreases-behind_comparison : goal.decreases-behind_comparison
decreases-behind_comparison l = 2 * l.below + 1

abbrev pub decreases-behind_junction : goal.decreases-behind_junction
decreases-behind_junction l = 2 * l.below + 1

abbrev pub decreases-behind_modifier : goal.decreases-behind_modifier
decreases-behind_modifier l = 2 * l.below + 1

abbrev pub decreases-behind_add : goal.decreases-behind_add
decreases-behind_add l = 2 * l.below + 1

abbrev pub decreases-behind_sum : goal.decreases-behind_sum
decreases-behind_sum l = 2 * l.below + 1
