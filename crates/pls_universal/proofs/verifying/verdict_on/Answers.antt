use Rattle.std.proofs.Common.{◌≡◌, ◌∙◌, None, Some, sym, subst}
use Rattle.pls_universal.specs.inner.Stating.{IsStated}
use Rattle.pls_universal.specs.inner.Verifying.{agreement}
use Rattle.pls_universal.specs.laws.LabelLaws.{behind_number, label-none}
use Rattle.pls_universal.proofs.Judged.{verdict-none, verdict-stated, verdict-unread}
use Rattle.pls_universal.proofs.verifying.verdict_on.Goals as goal

pub returns-in_default : goal.returns-in_default
returns-in_default g c test own own_read found =
    let takes = g.C.NumCode.takes in
    let none : takes c.args.view.now.own ≡ None =
    rw (← c.view.view_is) (sym c.in_default.ensures) in
    let no : None ≡ Some own = sym (label-none g.C.NumCode.code takes
    g.met.C.NumCode.takes_codes g.met.C.NumCode.takes_only c.args.view.now.own none) ∙ own_read in
    absurd (cc)

pub returns-in_default-2 : goal.returns-in_default-2
returns-in_default-2 g c test own own_read found =
    let takes = g.C.NumCode.takes in
    let view = c.args.view.now in
    let first : takes view.own ≡ Some (c.in-Some.own, c.in-Some.map) =
    rw (← c.view.view_is) (sym c.in-Some.ensures) in
    let parts = behind_number g.C.NumCode.code takes g.met.C.NumCode.takes_codes
    g.met.C.NumCode.takes_only view.own c.in-Some.own c.in-Some.map own first own_read in
    let unread : None ≡ agreement takes own.rows view.ports =
    rw (← c.view.view_is, ← c.deref.ensures)
    (sym c.in_default-2.is ∙ c.in_ok-agrees.ensures own.rows parts.1) in
    verdict-unread g.C.NumCode.code takes g.met.C.NumCode.takes_codes g.met.C.NumCode.takes_only
    view own own_read test unread

pub returns-in-None : goal.returns-in-None
returns-in-None g c test own own_read found =
    let takes = g.C.NumCode.takes in
    let view = c.args.view.now in
    let first : takes view.own ≡ Some (c.in-Some.own, c.in-Some.map) =
    rw (← c.view.view_is) (sym c.in-Some.ensures) in
    let parts = behind_number g.C.NumCode.code takes g.met.C.NumCode.takes_codes
    g.met.C.NumCode.takes_only view.own c.in-Some.own c.in-Some.map own first own_read in
    let id : c.from.result ≡ view.id = rw (← c.view.view_is) c.from.ensures in
    let agrees : Some c.in-Some-2.agrees ≡ agreement takes own.rows view.ports =
    rw (← c.view.view_is, ← c.deref.ensures)
    (sym c.in-Some-2.is ∙ c.in_ok-agrees.ensures own.rows parts.1) in
    let none : IsStated test own.rows None = subst (IsStated test own.rows) c.in-None.is found in
    c.judged_from-in-None.ensures
    ∙ rw (parts.0, id)
    (verdict-none g.C.NumCode.code takes g.met.C.NumCode.takes_codes
    g.met.C.NumCode.takes_only view own own_read test c.in-Some-2.agrees agrees none)

pub returns-in-Some-stated : goal.returns-in-Some-stated
returns-in-Some-stated g c test own own_read found =
    let takes = g.C.NumCode.takes in
    let view = c.args.view.now in
    let first : takes view.own ≡ Some (c.in-Some.own, c.in-Some.map) =
    rw (← c.view.view_is) (sym c.in-Some.ensures) in
    let parts = behind_number g.C.NumCode.code takes g.met.C.NumCode.takes_codes
    g.met.C.NumCode.takes_only view.own c.in-Some.own c.in-Some.map own first own_read in
    let id : c.from.result ≡ view.id = rw (← c.view.view_is) c.from.ensures in
    let agrees : Some c.in-Some-2.agrees ≡ agreement takes own.rows view.ports =
    rw (← c.view.view_is, ← c.deref.ensures)
    (sym c.in-Some-2.is ∙ c.in_ok-agrees.ensures own.rows parts.1) in
    let stated : IsStated test own.rows (Some c.in-Some-stated.stated) =
    subst (IsStated test own.rows) c.in-Some-stated.is found in
    c.judged_from.ensures
    ∙ rw (parts.0, id, c.has_node-here.ensures)
    (verdict-stated g.C.NumCode.code takes g.met.C.NumCode.takes_codes
    g.met.C.NumCode.takes_only view own own_read test c.in-Some-2.agrees
    c.in-Some-stated.stated agrees stated)
