use Rattle.std.proofs.Common.{◌≡◌, ◌∙◌, Some, sym, subst}
use Rattle.pls_numbers.specs.Shape.{said_by}
use Rattle.pls_universal.specs.Reading.{map_shape}
use Rattle.pls_universal.specs.inner.Stating.{IsStated}
use Rattle.pls_universal.proofs.map_of.MapOfChecker.verify.Goals as goal

pub returns-clause-verdict : goal.returns-clause-verdict
returns-clause-verdict g c =
    let takes = g.C.NumCode.takes in
    let test = g.P.PropertyTest.test c.args.self.now.property in
    let read : said_by map_shape takes c.args.view.now.own ≡ Some c.in-Some.label =
    rw (← c.view.view_is) (sym c.in_ok-label.ensures ∙ c.in-Some.is) in
    c.in_ok-verdict.ensures test c.in-Some.label read
    (subst (λ rows. IsStated test rows c.in_ok-stated.stated) c.as_slice.ensures
    c.in_ok-stated.ensures)
