use Rattle.std.proofs.Common.{List, ap, length, sym, arith}
use Rattle.std.proofs.lemmas.Bool.{lt-leb}
use Rattle.std.proofs.lemmas.List.Sums.{sum_by_more_le}
use Rattle.pls_configuration.specs.declared.limits.TheConstants.{MAX_PORTS}
use Rattle.pls_configuration.specs.declared.row.NodeRow.{NodeRow}
use Rattle.pls_configuration.specs.declared.row.Port.{Port}
use Rattle.pls_configuration.specs.Configuration.{ports_in}
use Rattle.pls.proofs.networks.have_few_ports.Goals as goal

pub returns-then-count-left : goal.returns-then-count-left
returns-then-count-left c =
    let rows = c.args.rows.now in
    let row = c.row-item.result in
    let one = sum_by_more_le (λ (row : NodeRow). length row.ports) rows c.loop-row.row-index row
    c.loop-row-test.true in
    let here = ap (λ (row : NodeRow). length row.ports) c.row-item.is in
    let many = ap (λ (ports : List Port). length ports) c.as_slice-count.ensures in
    sym (lt-leb (ports_in rows) MAX_PORTS
    (omega (arith, one, here, many, c.loop-row.invariant, c.if-count-left.true)))
