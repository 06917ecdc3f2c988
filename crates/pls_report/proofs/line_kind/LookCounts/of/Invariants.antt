use Rattle.std.proofs.Common.{◌≡◌, take}
use Rattle.pls_report.specs.inner.Lines.{counts_of}
use Rattle.pls_report.proofs.line_kind.LookCounts.of.Given as goal

abbrev pub invariant-loop-row : goal.invariant-loop-row
invariant-loop-row l = l.counts ≡ counts_of (take l.row-index l.rows)
