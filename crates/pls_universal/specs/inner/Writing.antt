-- Ports that are written, of a label or of a network.
use Rattle.std.specs.Prelude.{ℕ, List}
use Rattle.std.specs.List.{flat_map}
use Rattle.pls_universal.specs.Map.{numbers_of_port}

-- the numbers of ports, by the neighbour and the weight of each
abbrev pub numbers_of_ports : {X : Type 0} → (X → ℕ × ℕ) → List X → List ℕ
numbers_of_ports pair ports = flat_map (λ port. numbers_of_port (pair port)) ports
