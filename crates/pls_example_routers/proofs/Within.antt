-- A few small rows are within the limits of a network.
use Rattle.std.proofs.Common.{◌≤◌, List, length, All, arith}
use Rattle.std.proofs.lemmas.List.Sums.{sum_by-le}
use Rattle.pls_configuration.specs.declared.row.NodeRow.{NodeRow}
use Rattle.pls_configuration.specs.Configuration.{AreWithinLimits}
use Rattle.pls_example_routers.specs.SmallRow.{IsSmallRow}

pub within : (rows : List NodeRow) → 1 ≤ length rows → length rows ≤ 100 → All IsSmallRow rows
    → AreWithinLimits rows
within rows some few small =
    let ports = sum_by-le (λ (row : NodeRow). length row.ports) 2 rows
    (λ i other below. (small i other below).ports) in
    record {
      some = some;
      few_nodes = omega arith;
      few_ports = omega arith;
      small = λ i other below. omega (arith, (small i other below).num);
    }
