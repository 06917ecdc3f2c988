-- Ports whose neighbours are nodes.
use Rattle.std.specs.Prelude.{List, All, IsSome}
use Rattle.pls_configuration.specs.declared.row.Port.{Port}
use Rattle.pls_configuration.specs.declared.row.NodeRow.{NodeRow}
use Rattle.pls_configuration.specs.Configuration.{row_of}

-- each port names a node
abbrev pub AreKnown : List NodeRow → List Port → Type 0
AreKnown rows ports = All (λ port. IsSome (row_of rows port.nbr)) ports
