use Rattle.pls_facts.proofs.Agreed.{agree_everywhere}
use Rattle.pls_facts.proofs.agreement_laws.all_agree.Goals as goal

pub returns : goal.returns
returns g c say agree = agree_everywhere c.args.net.now say c.requires agree
