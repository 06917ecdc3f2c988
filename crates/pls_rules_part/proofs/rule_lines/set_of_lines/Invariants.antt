use Rattle.std.proofs.Common.{◌≡◌, length}
use Rattle.pls_rules_part.specs.RulesText.{RulesSaid}
use Rattle.pls_rules_part.specs.inner.Adding.{StandsBehind, refusal_from}
use Rattle.pls_rules_part.specs.inner.Progress.{Progress}
use Rattle.pls_rules_part.proofs.rule_lines.set_of_lines.Given as goal

abbrev pub invariant-loop-line : goal.invariant-loop-line
invariant-loop-line l =
    (l.place ≡ l.lines.number)
    × ((said : RulesSaid) → StandsBehind said l.fn.lines.rest
    → Progress said (refusal_from l.fn.lines.number said) l.lines l.set)

abbrev pub decreases-loop-line : goal.decreases-loop-line
decreases-loop-line l = length l.lines.rest
