use Rattle.pls_configuration.specs.Configuration.{ids_of}
use Rattle.pls_configuration.specs.Walk.{edges_of}
use Rattle.pls_facts.proofs.OneWalk.{one_walk}
use Rattle.pls_facts.proofs.PortEdges.{IsGraph-network}
use Rattle.pls_facts.proofs.spanning_laws.one_walk.Goals as goal

pub returns : goal.returns
returns c tree spans =
    let rows = c.args.net.now in
    one_walk (edges_of rows) tree (ids_of rows) spans
    (IsGraph-network rows c.is_valid.ensures).distinct
