use Rattle.pls_lines.specs.laws.LineWords.{no_line_here}
use Rattle.pls_lines.proofs.lines.Lines.pass.Goals as goal

pub returns-in-None-clause-other : goal.returns-in-None-clause-other
returns-in-None-clause-other c =
    rw (← c.rest.ensures.rest) (no_line_here _ _ c.in-None.ensures.none)
