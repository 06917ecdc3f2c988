use Rattle.std.proofs.Common.{◌+◌, arith}
use Rattle.pls_bits.specs.laws.FloorLogLaws.{floor_log-found}
use Rattle.pls_bits.proofs.gamma.log_of_next.Goals as goal

pub returns-clause-value : goal.returns-clause-value
returns-clause-value c =
    floor_log-found c.ilog2.result (c.args.number + 1) (omega (arith, c.requires))
    c.ilog2.ensures.power_le c.ilog2.ensures.next_power_gt
