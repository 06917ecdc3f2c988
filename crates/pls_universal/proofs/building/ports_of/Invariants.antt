use Rattle.std.proofs.Common.{◌≡◌, map, take}
use Rattle.pls_universal.specs.Rules.{port_of}
use Rattle.pls_universal.proofs.building.ports_of.Given as goal

-- the ports so far
abbrev pub invariant-loop-port : goal.invariant-loop-port
invariant-loop-port l = l.made.items ≡ map port_of (take l.port-index l.ports)
