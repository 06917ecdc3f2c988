use Rattle.pls_truth_values.specs.laws.SearchTestLaws.{acyclic_tested}
use Rattle.pls_truth_values.proofs.search_laws.acyclic_is_tested.Goals as goal

pub returns : goal.returns
returns c = acyclic_tested c.args.net.now c.is_valid.ensures
