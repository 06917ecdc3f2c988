use Rattle.pls_diameter_bridges.specs.laws.TestLaws.{bridgeless_tested}
use Rattle.pls_diameter_bridges.proofs.laws.bridgeless_is_tested.Goals as goal

pub returns : goal.returns
returns c = bridgeless_tested c.args.net.now
