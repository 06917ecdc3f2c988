use Rattle.std.proofs.Common.{true, false, ap, replicate}
use Rattle.std.proofs.lemmas.List.{get_or-replicate, length-replicate}
use Rattle.pls_pathmax.proofs.MorePorts.{gathered_of, none_led}
use Rattle.pls_pathmax.proofs.gathering.PortTally.before.Goals as goal

pub returns : goal.returns
returns c first id state label = ap (gathered_of true true)
    (none_led first id state label (replicate 64 false) (length-replicate 64 false)
    (λ k within. get_or-replicate 64 k false false within))
