use Rattle.pls_truth_values.specs.laws.PointerTestLaws.{spt_tested}
use Rattle.pls_truth_values.proofs.pointer_laws.spt_is_tested.Goals as goal

pub returns : goal.returns
returns c = spt_tested c.args.net.now c.is_valid.ensures
