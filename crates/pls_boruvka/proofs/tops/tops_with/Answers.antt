use Rattle.std.proofs.Common.{◌∷◌, [], length, arith, subst, sym, ap, length-append}
use Rattle.pls_boruvka.specs.inner.Tops.{Each, IsTop}
use Rattle.pls_boruvka.proofs.Listed.{Each-push}
use Rattle.pls_boruvka.proofs.tops.tops_with.Goals as goal

pub loop-place-preserved : goal.loop-place-preserved
loop-place-preserved c =
    let parents = c.args.parents.now in
    let joined = c.args.joined.now in
    let tops = c.loop-place.tops.items in
    let place = c.loop-place.place in
    let top = c.top_from-top.result in
    let (many, right, old) = c.loop-place.invariant in
    let all = c.in_ok-push.ensures.items in (
      let size = ap length all in omega (arith, size, many, length-append tops (top ∷ [])),
      subst (Each (IsTop parents joined)) (sym all)
          (Each-push (IsTop parents joined) tops place top many right c.top_from-top.ensures),
      c.note_top.ensures,
    )
