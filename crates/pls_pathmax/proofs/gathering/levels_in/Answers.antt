use Rattle.std.proofs.Common.{ap}
use Rattle.pls_pathmax.specs.declared.glance.PathMaxGlance.{PathMaxGlance}
use Rattle.pls_pathmax.proofs.gathering.levels_in.Goals as goal

pub returns : goal.returns
returns g c label said seen =
    c.levels_behind.ensures label said (ap (λ (glance : PathMaxGlance g.row.N). glance.head) seen)
