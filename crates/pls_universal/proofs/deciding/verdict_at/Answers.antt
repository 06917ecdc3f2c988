use Rattle.std.proofs.Common.{◌≡◌, ◌∙◌, IfSome, sym, subst}
use Rattle.std.proofs.lemmas.Option.{get_or_from_slice_get}
use Rattle.pls_universal.specs.declared.deciding.DecidedMap.{DecidedMap}
use Rattle.pls_universal.specs.inner.Deciding.{IsNumberOf}
use Rattle.pls_universal.specs.inner.Stating.{IsStated}
use Rattle.pls_universal.proofs.deciding.verdict_at.Goals as goal

pub returns-clause-verdict : goal.returns-clause-verdict
returns-clause-verdict g c =
    let takes = g.C.NumCode.takes in
    let test = g.P.PropertyTest.test c.args.property.now in
    let is : IsNumberOf takes test c.number_of.new.self c.args.view.now.own c.in-Some.number =
    rw (← c.view.view_is) (subst (λ found. IfSome found
    (IsNumberOf takes test c.number_of.new.self c.view.inside.own)) c.in-Some.is
    c.in_ok-number.ensures.number) in
    let same : is.map ≡ c.index.result.now =
    sym (get_or_from_slice_get c.number_of.new.self.maps.items c.in-Some.number is.map
    c.index.result.now is.at) ∙ sym c.index.ensures in
    c.in_ok-verdict.ensures test is.found.own is.found.read
    (subst (λ (map : DecidedMap). IsStated test is.found.own.rows map.stated) same is.found.stated)
