use Rattle.std.proofs.Common.{◌∙◌, ap}
use Rattle.std.proofs.lemmas.Result.{err_from_is_err_and}
use Rattle.pls_streams.specs.declared.text_error.TextError.TheVariants.{Form}
use Rattle.pls_lines.specs.Lines.{Left}
use Rattle.pls_lines.proofs.ListItems.{fault_at_heading, fault_before_end, fault_at_end}
use Rattle.pls_lines.proofs.ListPassed.{lines_passed, list_formed, list_passed, place_behind}
use Rattle.pls_lines.proofs.list_text.pass_list.Goals as goal

pub returns-in_default-clause-form : goal.returns-in_default-clause-form
returns-in_default-clause-form g c = (
  c.args.lines.now.number,
  c.form_error.ensures ∙ ap (λ (left : Left). Form left.number) c.in_default.ensures.unchanged,
  fault_at_heading g.T.Heading.LineKind.Fits g.T.Heading.LineKind.written
      g.T.Item.LineKind.Fits g.T.Item.LineKind.written g.T.ListTally.Are c.laws-2.ensures
      c.laws-3.ensures c.laws.ensures c.args.lines.now c.in_default.ensures.none,
)

pub returns-then-not-is_whole-clause-form : goal.returns-then-not-is_whole-clause-form
returns-then-not-is_whole-clause-form g c =
    let items = c.pass_items-kept.ensures.passed in
    let now = c.pass_items-kept.new.lines in (
      now.number,
      c.form_error-then-not-is_whole.ensures,
      fault_before_end g.T.Heading.LineKind.Fits g.T.Heading.LineKind.written
          g.T.Item.LineKind.Fits g.T.Item.LineKind.written g.T.ListTally.Are c.laws-2.ensures
          c.laws-3.ensures c.laws.ensures c.in-Some.heading c.args.lines.now now items.items
          c.in-Some.ensures.fits items.begun
          (place_behind g.T.Item.LineKind.Fits g.T.Item.LineKind.written g.T.ListTally.Are
          g.T.ListTally.tally g.T.Heading.LineKind.Fits g.T.Heading.LineKind.written
          c.in-Some.heading _ _ _ _ c.in-Some.ensures.passed items)
          (c.pass_items-kept.ensures.none items.items items.begun items.counted)
          (c.if-not-is_whole.ensures.other items.items items.begun items.counted),
    )

pub returns-in_err-expect-clause-form : goal.returns-in_err-expect-clause-form
returns-in_err-expect-clause-form g c =
    let exit = err_from_is_err_and c.from_residual.result c.from_residual.ensures.1 in
    let items = c.pass_items-kept.ensures.passed in
    let now = c.pass_items-kept.new.lines in
    rw (exit.1, exit.2) (
      now.number,
      c.in_err-expect.ensures.form,
      fault_at_end g.T.Heading.LineKind.Fits g.T.Heading.LineKind.written
          g.T.Item.LineKind.Fits g.T.Item.LineKind.written g.T.ListTally.Are c.laws-2.ensures
          c.laws-3.ensures c.laws.ensures c.in-Some.heading c.args.lines.now now items.items
          c.in-Some.ensures.fits items.begun
          (place_behind g.T.Item.LineKind.Fits g.T.Item.LineKind.written g.T.ListTally.Are
          g.T.ListTally.tally g.T.Heading.LineKind.Fits g.T.Heading.LineKind.written
          c.in-Some.heading _ _ _ _ c.in-Some.ensures.passed items)
          (c.pass_items-kept.ensures.none items.items items.begun items.counted)
          c.in_err-expect.ensures.other,
    )

pub between-lines-requires : goal.between-lines-requires
between-lines-requires g c =
    rw c.again-start.ensures (
      _,
      lines_passed g.T.Item.LineKind.Fits g.T.Item.LineKind.written g.T.ListTally.Are
          g.T.ListTally.tally g.T.Heading.LineKind.Fits g.T.Heading.LineKind.written
          c.in-Some.heading _ _ _ _ _ c.in-Some.ensures.passed c.pass_items-kept.ensures.passed
          c.in_ok-expect.ensures.passed,
    )

pub returns-clause-ok : goal.returns-clause-ok
returns-clause-ok g c =
    let items = c.pass_items-kept.ensures.passed in
    list_passed g.T.Item.LineKind.Fits g.T.Item.LineKind.written g.T.ListTally.Are
    g.T.ListTally.tally g.T.Heading.LineKind.Fits g.T.Heading.LineKind.written c.in-Some.heading
    c.args.lines.now _ _ _ _ _ c.in-Some.ensures.fits c.in-Some.ensures.passed items
    (c.if-not-is_whole.ensures.whole items.items items.begun items.counted)
    c.in_ok-expect.ensures.passed
    (rw c.again-start.ensures at c.between-lines.ensures.number)
    (rw c.again-start.ensures at c.between-lines.ensures.rest)

pub returns-clause-format : goal.returns-clause-format
returns-clause-format g c =
    list_formed g.T.Item.LineKind.Fits g.T.Item.LineKind.written g.T.ListTally.Are
    g.T.ListTally.tally g.T.Heading.LineKind.Fits g.T.Heading.LineKind.written _ _ _ _ _
    c.laws-2.ensures c.laws-3.ensures c.laws.ensures (returns-clause-ok g c)
