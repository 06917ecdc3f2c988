use Rattle.std.proofs.Common.{◌+◌}
use Rattle.pls_rules_part.proofs.Accepted.{accepted_says}
use Rattle.pls_rules_part.proofs.laws.said_again.Goals as goal

pub returns : goal.returns
returns c = λ said heading are accepted. accepted_says said are (heading + 1) accepted
