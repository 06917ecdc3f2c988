use Rattle.pls_streams.proofs.Written.{part_of}
use Rattle.pls_report.specs.inner.Kept.{joined_text}
use Rattle.pls_report.proofs.look.write_kept.Goals as goal

pub returns-clause-part : goal.returns-clause-part
returns-clause-part g c =
    let text = joined_text c.args.look.kept in
    let lines = rw c.new-gathered.ensures at c.in_ok-write_texts.ensures in
    part_of _ _ _ _ c.flush.result text lines c.flush.ensures.writes
