use Rattle.pls_names.proofs.named.decide_named.Goals as goal

pub returns-in-Forest : goal.returns-in-Forest
returns-in-Forest g c = rw c.in-Forest.is c.decide_by-in-Forest.ensures
