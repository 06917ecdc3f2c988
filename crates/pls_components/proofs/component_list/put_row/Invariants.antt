use Rattle.std.proofs.Common.{◌≡◌, ◌++◌, ◌∷◌, List, [], take}
use Rattle.pls_configuration.specs.declared.row.NodeRow.{NodeRow}
use Rattle.pls_components.proofs.component_list.put_row.Given as goal

abbrev pub invariant-loop-port : goal.invariant-loop-port
invariant-loop-port l = (before : List NodeRow) (row : NodeRow)
    → l.initial.rows ≡ before ++ row ∷ []
    → l.rows ≡ before ++ (record row { ports = row.ports ++ take l.port-index l.port-items }) ∷ []
