use Rattle.pls_truth_values.specs.laws.PointerTestLaws.{tree_tested}
use Rattle.pls_truth_values.proofs.pointer_laws.tree_is_tested.Goals as goal

pub returns : goal.returns
returns c = tree_tested c.args.net.now c.is_valid.ensures
