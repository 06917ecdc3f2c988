use Rattle.pls_truth_values.specs.laws.PointerTestLaws.{forest_tested}
use Rattle.pls_truth_values.proofs.pointer_laws.forest_is_tested.Goals as goal

pub returns : goal.returns
returns c = forest_tested c.args.net.now c.is_valid.ensures
