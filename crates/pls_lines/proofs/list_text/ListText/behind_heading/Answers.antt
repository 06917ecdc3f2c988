use Rattle.pls_lines.proofs.ListRead.{heading_read}
use Rattle.pls_lines.proofs.list_text.ListText.behind_heading.Goals as goal

pub returns : goal.returns
returns g c =
    heading_read g.T.Heading.LineKind.Fits g.T.Heading.LineKind.written g.T.Item.LineKind.Fits
    g.T.Item.LineKind.written g.T.ListTally.Are c.laws-2.ensures c.laws-3.ensures c.laws.ensures _ _ _ _ c.next_of.result
    c.again-lines.ensures c.next_of.ensures.fits c.next_of.ensures.passed c.next_of.ensures.none
