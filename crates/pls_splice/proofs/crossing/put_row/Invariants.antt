use Rattle.std.proofs.Common.{◌≡◌, ◌++◌, ◌∷◌, List, [], map, take}
use Rattle.pls_configuration.specs.declared.row.NodeRow.{NodeRow}
use Rattle.pls_splice.specs.Crossing.{cross_port}
use Rattle.pls_splice.proofs.crossing.put_row.Given as goal

abbrev pub invariant-loop-port : goal.invariant-loop-port
invariant-loop-port l = (before : List NodeRow) (row : NodeRow)
    → l.initial.rows ≡ before ++ row ∷ []
    → l.rows ≡ before ++ (record row {
      ports = row.ports ++ map (cross_port l.ends l.id) (take l.port-index l.port-items);
    }) ∷ []
