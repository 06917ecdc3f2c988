use Rattle.std.proofs.Common.{◌≡◌, map, take}
use Rattle.pls_configuration.specs.declared.row.Port.{Port}
use Rattle.pls_example_weights.proofs.marker.weights_at.Given as goal

-- the weights at the ports so far
abbrev pub invariant-loop-port : goal.invariant-loop-port
invariant-loop-port l =
    l.weights ≡ take 4 (map (λ (port : Port). port.weight) (take l.port-index l.ports))
