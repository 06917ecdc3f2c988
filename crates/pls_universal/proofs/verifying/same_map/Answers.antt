use Rattle.std.proofs.Common.{◌≡◌, ◌∙◌, Some, sym, subst}
use Rattle.std.proofs.lemmas.Bool.{true≢false}
use Rattle.pls_numbers.specs.Shape.{said_by}
use Rattle.pls_universal.specs.Reading.{rows_shape}
use Rattle.pls_universal.proofs.Agreeing.{same_map-equal, same_map-none, same_map-other, same_map-unread}
use Rattle.pls_universal.proofs.verifying.same_map.Goals as goal

pub returns-in_default : goal.returns-in_default
returns-in_default g c rows read =
    same_map-unread g.C.NumCode.code g.C.NumCode.takes g.met.C.NumCode.takes_codes
    g.met.C.NumCode.takes_only rows c.args.label.now (sym c.in_default.ensures)

pub returns-then-equal : goal.returns-then-equal
returns-then-equal g c rows read =
    let takes = g.C.NumCode.takes in
    same_map-equal g.C.NumCode.code takes g.met.C.NumCode.takes_codes g.met.C.NumCode.takes_only
    rows c.args.label.now c.in-Some.field-0-0 c.in-Some.other
    (sym c.in-Some.ensures)
    (subst (λ map. said_by rows_shape takes map ≡ Some rows) (c.equal.ensures.0 c.if-equal.true)
    read)

pub returns-in_default-2 : goal.returns-in_default-2
returns-in_default-2 g c rows read =
    same_map-none g.C.NumCode.takes rows c.args.label.now
    (sym c.in_default-2.is ∙ c.in_ok-read.ensures)

pub returns : goal.returns
returns g c rows read =
    same_map-other g.C.NumCode.code g.C.NumCode.takes g.met.C.NumCode.takes_codes
    g.met.C.NumCode.takes_only rows c.args.label.now c.in-Some.field-0-0 c.args.map.now
    c.in-Some.other (sym c.in-Some.ensures) read
    (λ same. true≢false (sym (c.equal.ensures.1 same) ∙ c.if-equal.false)) c.in-Some-2.field-0
    (sym c.in-Some-2.is ∙ c.in_ok-read.ensures)
