use Rattle.std.proofs.Common.{◌+◌}
use Rattle.pls_rules_part.proofs.Printables.{printable_accepted, printable_said, printable_set}
use Rattle.pls_rules_part.proofs.laws.printable_again.Goals as goal

pub returns-clause-allowed : goal.returns-clause-allowed
returns-clause-allowed c = printable_said

pub returns-clause-accepted : goal.returns-clause-accepted
returns-clause-accepted c = λ set heading printable. printable_accepted set printable (heading + 1)

pub returns-clause-same : goal.returns-clause-same
returns-clause-same c = printable_set
