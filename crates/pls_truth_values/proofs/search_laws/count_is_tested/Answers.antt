use Rattle.pls_truth_values.specs.laws.MarkTestLaws.{count_tested}
use Rattle.pls_truth_values.proofs.search_laws.count_is_tested.Goals as goal

pub returns : goal.returns
returns c = count_tested c.args.net.now
