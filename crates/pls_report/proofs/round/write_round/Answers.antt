use Rattle.pls_report.specs.Report.{round_text}
use Rattle.pls_streams.proofs.Written.{part_of}
use Rattle.pls_report.proofs.round.write_round.Goals as goal

pub returns-clause-part : goal.returns-clause-part
returns-clause-part g c =
    let text = round_text c.args.number c.args.checked c.args.connected c.args.rows.now in
    let lines = rw c.new-gathered.ensures at c.in_ok-write_decided.ensures in
    part_of _ _ _ _ c.flush.result text lines c.flush.ensures.writes
