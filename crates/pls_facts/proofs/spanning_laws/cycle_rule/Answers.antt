use Rattle.pls_configuration.specs.Configuration.{ids_of}
use Rattle.pls_configuration.specs.Walk.{edges_of}
use Rattle.pls_facts.proofs.CycleRule.{IsLightest-heavy}
use Rattle.pls_facts.proofs.PortEdges.{IsGraph-network}
use Rattle.pls_facts.proofs.spanning_laws.cycle_rule.Goals as goal

pub returns : goal.returns
returns c tree spans =
    let rows = c.args.net.now in
    IsLightest-heavy (edges_of rows) tree (ids_of rows) (IsGraph-network rows c.is_valid.ensures)
    spans
