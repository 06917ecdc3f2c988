use Rattle.pls_lines.proofs.ListKept.{list_kept, passes_kept}
use Rattle.pls_lines.proofs.ListPassed.{lines_passed, list_formed, list_passed}
use Rattle.pls_lines.proofs.list_read.keep_ahead.Goals as goal

pub between-requires : goal.between-requires
between-requires g c =
    rw c.again-start.ensures (
      _,
      lines_passed g.T.Item.LineKind.Fits g.T.Item.LineKind.written g.T.ListTally.Are
          g.T.ListTally.tally g.T.Heading.LineKind.Fits g.T.Heading.LineKind.written
          c.in_ok-heading.heading _ _ _ _ _ c.in_ok-heading.ensures.passed
          (passes_kept g.T.Item.LineKind.Fits g.T.Item.LineKind.written g.T.ListTally.Are
          g.T.ListTally.tally g.T.Keep.line _ _ _ _ c.in_ok-kept.ensures)
          c.if-not-pass.ensures.passed,
    )

pub returns-clause-passed : goal.returns-clause-passed
returns-clause-passed g c =
    let keeps = c.in_ok-kept.ensures in
    list_passed g.T.Item.LineKind.Fits g.T.Item.LineKind.written g.T.ListTally.Are
    g.T.ListTally.tally g.T.Heading.LineKind.Fits g.T.Heading.LineKind.written
    c.in_ok-heading.heading c.args.lines.now _ _ _ _ _ c.in_ok-heading.ensures.fits
    c.in_ok-heading.ensures.passed
    (passes_kept g.T.Item.LineKind.Fits g.T.Item.LineKind.written g.T.ListTally.Are
    g.T.ListTally.tally g.T.Keep.line _ _ _ _ keeps)
    (c.if-not-is_whole.ensures.whole keeps.items keeps.begun keeps.counted)
    c.if-not-pass.ensures.passed (rw c.again-start.ensures at c.between.ensures.number)
    (rw c.again-start.ensures at c.between.ensures.rest)

pub returns-clause-format : goal.returns-clause-format
returns-clause-format g c =
    list_formed g.T.Item.LineKind.Fits g.T.Item.LineKind.written g.T.ListTally.Are
    g.T.ListTally.tally g.T.Heading.LineKind.Fits g.T.Heading.LineKind.written _ _ _ _ _
    c.laws-2.ensures c.laws-3.ensures c.laws.ensures (returns-clause-passed g c)

pub returns-clause-lines : goal.returns-clause-lines
returns-clause-lines g c =
    let keeps = c.in_ok-kept.ensures in
    list_kept g.T.Item.LineKind.Fits g.T.Item.LineKind.written g.T.ListTally.Are
    g.T.ListTally.tally g.T.Keep.line g.T.Heading.LineKind.Fits g.T.Heading.LineKind.written
    c.in_ok-heading.heading c.args.lines.now _ _ _ _ _ _ c.in_ok-heading.ensures.fits
    c.in_ok-heading.ensures.passed keeps
    (c.if-not-is_whole.ensures.whole keeps.items keeps.begun keeps.counted)
    c.if-not-pass.ensures.passed (rw c.again-start.ensures at c.between.ensures.rest)
