use Rattle.pls_app.proofs.Splits.{one_leader_stays}
use Rattle.pls_app.proofs.laws.leader_stays.Goals as goal

pub returns : goal.returns
returns c = one_leader_stays
