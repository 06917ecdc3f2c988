use Rattle.pls_facts.proofs.Descent.{the_root}
use Rattle.pls_facts.proofs.descent_laws.one_root.Goals as goal

pub returns : goal.returns
returns c root depth = the_root c.args.net.now c.is_valid.ensures c.requires root depth
