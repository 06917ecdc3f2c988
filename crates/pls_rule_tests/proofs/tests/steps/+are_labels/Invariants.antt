use Rattle.std.proofs.Common.{length}
use Rattle.pls_rule_tests.proofs.tests.steps.+are_labels.Given as goal

abbrev pub decreases-are_labels : goal.decreases-are_labels
decreases-are_labels l = length l.ports.now
