use Rattle.pls_truth_values.specs.laws.SearchTestLaws.{bipartite_tested}
use Rattle.pls_truth_values.proofs.search_laws.bipartite_is_tested.Goals as goal

pub returns : goal.returns
returns c = bipartite_tested c.args.net.now c.is_valid.ensures
