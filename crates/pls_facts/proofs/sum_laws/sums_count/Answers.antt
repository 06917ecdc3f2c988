use Rattle.pls_facts.proofs.TreeSums.{sums_count}
use Rattle.pls_facts.proofs.sum_laws.sums_count.Goals as goal

pub returns : goal.returns
returns c root parent number root_in have summed =
    sums_count c.args.net.now c.is_valid.ensures root root_in parent have number summed
