use Rattle.std.proofs.Common.{arith}
use Rattle.pls_example_routers.proofs.Within.{within}
use Rattle.pls_example_routers.proofs.nodes.network_of.Goals as goal

pub build-requires : goal.build-requires
build-requires c = record {
  within_limits = within _ (omega arith) (omega arith) c.loop-i.invariant.1;
}
