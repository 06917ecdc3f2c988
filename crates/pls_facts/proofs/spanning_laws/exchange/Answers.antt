use Rattle.pls_configuration.specs.Configuration.{ids_of}
use Rattle.pls_configuration.specs.Walk.{edges_of}
use Rattle.pls_facts.proofs.Exchanges.{IsSpanningTree-between, IsSpanningTree-on_path}
use Rattle.pls_facts.proofs.PortEdges.{IsGraph-network}
use Rattle.pls_facts.proofs.spanning_laws.exchange.Goals as goal

pub returns-clause-on_the_path : goal.returns-clause-on_the_path
returns-clause-on_the_path c tree spans =
    let rows = c.args.net.now in
    IsSpanningTree-on_path (edges_of rows) tree (ids_of rows) spans
    (IsGraph-network rows c.is_valid.ensures).distinct

pub returns-clause-between_the_parts : goal.returns-clause-between_the_parts
returns-clause-between_the_parts c tree spans new old new_in =
    let rows = c.args.net.now in
    let ends = (IsGraph-network rows c.is_valid.ensures).ends new new_in in
    IsSpanningTree-between (edges_of rows) tree (ids_of rows) spans new old new_in ends.0 ends.1
