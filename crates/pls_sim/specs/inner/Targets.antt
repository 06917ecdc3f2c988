-- Where each port leads.
use Rattle.std.specs.Prelude.{List, map}
use Rattle.pls_configuration.specs.declared.row.NodeRow.{NodeRow}
use Rattle.pls_sim.specs.declared.target.Target.{Target}
use Rattle.pls_sim.specs.Ways.{AreEnds, LeadBack}

-- for each port that the list has, the one that leads back and the place of the node that has it
pub record AreTargets (rows : List NodeRow) (targets : List Target) : Type 0 where
  pub lead_back : LeadBack rows (map (λ target. target.port) targets)
  pub are_ends : AreEnds rows (map (λ target. target.place) targets)
