use Rattle.std.proofs.Common.{◌≡◌, length, take}
use Rattle.pls_configuration.specs.Configuration.{ports_in}
use Rattle.pls_sim.specs.inner.Targets.{AreTargets}
use Rattle.pls_sim.proofs.ways.targets_of.Given as goal

abbrev pub invariant-loop-i : goal.invariant-loop-i
invariant-loop-i l = record {
  so_far : length l.targets.items ≡ ports_in (take l.i l.net);
  targets : AreTargets l.net l.targets.items;
}
