use Rattle.std.proofs.Common.{arith}
use Rattle.pls_bits.specs.laws.FloorLogLaws.{floor_log-bound}
use Rattle.pls_pathmax.proofs.marking.PathMaxRulesMarker.longest.Goals as goal

pub overflow_add-levels : goal.overflow_add-levels
overflow_add-levels g c = let log = c.floor_log-levels.ensures in
    omega (arith, log, floor_log-bound c.args.size.now.nodes)
