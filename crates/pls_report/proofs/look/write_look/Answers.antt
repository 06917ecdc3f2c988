use Rattle.pls_report.specs.Look.{look_text}
use Rattle.pls_streams.proofs.Written.{part_of}
use Rattle.pls_report.proofs.look.write_look.Goals as goal

pub returns-clause-part : goal.returns-clause-part
returns-clause-part g c =
    let text = look_text c.args.number c.args.look.now.rows in
    let lines = rw c.new-gathered.ensures at c.in_ok-write_rows.ensures in
    part_of _ _ _ _ c.flush.result text lines c.flush.ensures.writes
