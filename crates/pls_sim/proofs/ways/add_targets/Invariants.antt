use Rattle.std.proofs.Common.{◌≡◌, ◌+◌, length, take}
use Rattle.pls_configuration.specs.Configuration.{ports_in}
use Rattle.pls_sim.specs.inner.Targets.{AreTargets}
use Rattle.pls_sim.proofs.ways.add_targets.Given as goal

abbrev pub invariant-loop-place : goal.invariant-loop-place
invariant-loop-place l = record {
  so_far : length l.targets.items ≡ ports_in (take l.i l.net) + l.place-index;
  targets : AreTargets l.net l.targets.items;
}
