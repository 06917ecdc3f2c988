use Rattle.std.proofs.Common.{◌≡◌, take}
use Rattle.pls_configuration.specs.Configuration.{ids_of}
use Rattle.pls_sim.proofs.ways.ids_of.Given as goal

abbrev pub invariant-loop-i : goal.invariant-loop-i
invariant-loop-i l = l.ids.items ≡ ids_of (take l.i l.net)
