use Rattle.pls_report.specs.Report.{report_text}
use Rattle.pls_streams.proofs.Written.{part_of}
use Rattle.pls_report.proofs.report.write_report.Goals as goal

pub returns-clause-part : goal.returns-clause-part
returns-clause-part g c =
    let text = report_text c.args.simulated c.args.parts.now c.args.rows.now in
    let lines = rw c.new-gathered.ensures at c.in_ok-write_lines.ensures in
    part_of _ _ _ _ c.flush.result text lines c.flush.ensures.writes
