use Rattle.std.proofs.lemmas.Bool.{both_ways}
use Rattle.std.proofs.lemmas.Result.{err_from_is_err_and}
use Rattle.pls_lines.specs.ListPart.{IsListPart}
use Rattle.pls_lines.specs.laws.ListLaws.{list_is_part}
use Rattle.pls_lines.specs.LineKind.{Says}
use Rattle.pls_lines.proofs.ListRead.{whole_list}
use Rattle.pls_lines.proofs.WholeTexts.{fault_in_part, line_behind}
use Rattle.pls_lines.proofs.list_text.read_list.Goals as goal

pub returns-in_err-part-clause-form : goal.returns-in_err-part-clause-form
returns-in_err-part-clause-form g c =
    let exit = err_from_is_err_and c.from_residual.result c.from_residual.ensures.1 in
    rw (exit.1, exit.2) (fault_in_part
    (IsListPart (Says g.T.Heading.LineKind.Fits g.T.Heading.LineKind.written)
    g.T.Item.LineKind.written g.T.ListTally.Are) _ _ _
    (list_is_part g.T.Heading.LineKind.Fits g.T.Heading.LineKind.written g.T.Item.LineKind.Fits
    g.T.Item.LineKind.written g.T.ListTally.Are c.laws-2.ensures c.laws-3.ensures c.laws.ensures)
    c.new-lines.ensures.number c.new-lines.ensures.rest c.in_err-part.ensures.form)

pub returns-then-not-at_end-clause-form : goal.returns-then-not-at_end-clause-form
returns-then-not-at_end-clause-form g c =
    line_behind
    (IsListPart (Says g.T.Heading.LineKind.Fits g.T.Heading.LineKind.written)
    g.T.Item.LineKind.written g.T.ListTally.Are) _ _ _ _
    (list_is_part g.T.Heading.LineKind.Fits g.T.Heading.LineKind.written g.T.Item.LineKind.Fits
    g.T.Item.LineKind.written g.T.ListTally.Are c.laws-2.ensures c.laws-3.ensures c.laws.ensures)
    c.new-lines.ensures.number c.new-lines.ensures.rest c.in_ok-part.ensures.format
    (λ none. both_ways _ c.if-not-at_end.true (c.at_end.ensures.1 none)) c.form_error.ensures

pub returns-clause-whole : goal.returns-clause-whole
returns-clause-whole g c =
    whole_list g.T.Heading.LineKind.Fits g.T.Heading.LineKind.written g.T.Item.LineKind.Fits
    g.T.Item.LineKind.written g.T.ListTally.Are c.laws-2.ensures c.laws-3.ensures c.laws.ensures
    g.T.ListTally.tally c.args.text.now _ c.new-lines.result c.pass_list.new.lines _ _
    c.new-lines.ensures.number c.new-lines.ensures.rest
    (c.at_end.ensures.0 c.if-not-at_end.false) c.in_ok-part.ensures.ok
