use Rattle.std.proofs.Common.{length, ap, arith}
use Rattle.std.proofs.lemmas.List.{length-map}
use Rattle.pls_sim.specs.declared.target.Target.{Target}
use Rattle.pls_sim.specs.Ways.{Numbers}
use Rattle.pls_sim.proofs.ways.Ways.len.Goals as goal

pub returns : goal.returns
returns c =
    omega (
      arith,
      ap (λ (ways : Numbers). length ways.back) c.self.view_is,
      length-map c.self.inside.targets.items (λ (target : Target). target.port),
    )
