use Rattle.std.proofs.Common.{refl}
use Rattle.pls_sim.proofs.WayFound.{no_targets}
use Rattle.pls_sim.proofs.ways.targets_of.Goals as goal

pub loop-i-init : goal.loop-i-init
loop-i-init c = rw c.in_ok-targets.ensures.items (record {
  so_far = refl;
  targets = no_targets c.args.net.now;
})
