use Rattle.std.proofs.Common.{IsTrue}
use Rattle.pls_configuration.specs.Configuration.{ids_of}
use Rattle.pls_configuration.specs.Walk.{Edge, edges_of}
use Rattle.pls_facts.proofs.CutRule.{IsLightest-first, OthersAreHeavy-first}
use Rattle.pls_facts.proofs.PortEdges.{IsGraph-network}
use Rattle.pls_facts.proofs.spanning_laws.cut_rule.Goals as goal

pub returns-clause-heavy : goal.returns-clause-heavy
returns-clause-heavy c tree before spans order first =
    OthersAreHeavy-first (λ (one other : Edge). IsTrue (before one other)) (edges_of c.args.net.now)
    order tree spans.among first

pub returns-clause-lightest : goal.returns-clause-lightest
returns-clause-lightest c tree before spans order =
    let rows = c.args.net.now in
    IsLightest-first (λ (one other : Edge). IsTrue (before one other)) (edges_of rows) order tree
    (ids_of rows) (IsGraph-network rows c.is_valid.ensures) spans
