use Rattle.std.proofs.Common.{ℕ, List, ap, length, arith}
use Rattle.pls_universal.proofs.Buildable.{ports-many}
use Rattle.pls_universal.proofs.building.have_few_ports.Goals as goal

pub returns-then-count-left : goal.returns-then-count-left
returns-then-count-left c =
    ports-many c.args.rows.now c.loop-row.row-index c.row-item.result c.loop-row.left
    c.loop-row-test.true c.row-item.is c.loop-row.invariant
    (omega (
      arith,
      c.if-count-left.true,
      ap (λ (ports : List (ℕ × ℕ)). length ports)
          c.as_slice-count.ensures,
    ))
