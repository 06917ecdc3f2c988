use Rattle.std.proofs.Common.{◌∷◌, [], length, arith, subst, sym, ap, length-append}
use Rattle.pls_boruvka.specs.inner.Tops.{Each, IsParentPlace}
use Rattle.pls_boruvka.proofs.Listed.{Each-push}
use Rattle.pls_boruvka.proofs.tops.parents_of.Goals as goal

pub loop-place-preserved : goal.loop-place-preserved
loop-place-preserved c =
    let parents = c.loop-place.parents.items in
    let place = c.loop-place.place in
    let found = c.parent_of.result in
    let (many, right) = c.loop-place.invariant in
    let all = c.in_ok-push.ensures.items in (
      let size = ap length all in omega (arith, size, many, length-append parents (found ∷ [])),
      subst (Each (IsParentPlace c.args.net.now)) (sym all)
          (Each-push (IsParentPlace c.args.net.now) parents place found many right c.parent_of.ensures),
    )
