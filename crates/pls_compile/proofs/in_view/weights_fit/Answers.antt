use Rattle.std.proofs.Common.{◌<◌, ◌^◌}
use Rattle.pls_labels.specs.declared.view.PortView.{PortView}
use Rattle.pls_compile.proofs.Lists.{each_more}
use Rattle.pls_compile.proofs.in_view.weights_fit.Goals as goal

pub loop-p-preserved : goal.loop-p-preserved
loop-p-preserved c =
    each_more (λ (port : PortView). port.weight < 2 ^ 64) c.args.ports.now c.loop-p.p
    c.index-ports-p.result c.loop-p-test.true c.fits_64_bits.ensures c.loop-p.invariant
