use Rattle.std.proofs.Common.{◌∙◌, ap}
use Rattle.std.proofs.lemmas.List.{take_all}
use Rattle.pls_report.specs.inner.Lines.{counts_of}
use Rattle.pls_report.proofs.Counts.{counts_few, counts_next}
use Rattle.pls_report.proofs.line_kind.LookCounts.of.Goals as goal

pub add-requires : goal.add-requires
add-requires c =
    counts_few c.args.rows.now c.loop-row.row-index c.loop-row.counts c.loop-row.invariant
    c.loop-row-test.true c.requires.few

pub loop-row-preserved : goal.loop-row-preserved
loop-row-preserved c =
    counts_next c.args.rows.now c.loop-row.row-index c.row-item.result c.of.result
    c.loop-row.counts c.add.new.self c.row-item.is c.loop-row-test.true c.of.ensures c.add.ensures
    c.loop-row.invariant

pub returns : goal.returns
returns c =
    c.loop-row.invariant
    ∙ ap counts_of (take_all c.loop-row.row-index c.args.rows.now c.loop-row-test.false)
