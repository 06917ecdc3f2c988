use Rattle.pls_truth_values.specs.laws.SearchTestLaws.{mst_tested}
use Rattle.pls_truth_values.proofs.search_laws.mst_is_tested.Goals as goal

pub returns : goal.returns
returns c = mst_tested c.args.net.now c.is_valid.ensures
