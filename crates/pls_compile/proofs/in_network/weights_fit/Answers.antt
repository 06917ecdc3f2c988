use Rattle.std.proofs.Common.{◌<◌, ◌^◌}
use Rattle.pls_configuration.specs.declared.row.Port.{Port}
use Rattle.pls_compile.proofs.Lists.{each_more}
use Rattle.pls_compile.proofs.in_network.weights_fit.Goals as goal

pub loop-p-preserved : goal.loop-p-preserved
loop-p-preserved c =
    each_more (λ (port : Port). port.weight < 2 ^ 64) c.args.ports.now c.loop-p.p
    (record { nbr = 0; weight = 0 }) c.loop-p-test.true c.fits_64_bits.ensures c.loop-p.invariant
