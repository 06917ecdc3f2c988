use Rattle.pls_diameter_bridges.specs.laws.TestLaws.{diameter_tested}
use Rattle.pls_diameter_bridges.proofs.laws.diameter_is_tested.Goals as goal

pub returns : goal.returns
returns c most = diameter_tested most c.args.net.now
