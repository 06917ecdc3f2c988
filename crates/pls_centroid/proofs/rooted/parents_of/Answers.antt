use Rattle.std.proofs.Common.{◌≡◌, ◌<◌, ◌∷◌, [], ℕ, IfSome, List, Option, Some, length, slice_get, sym, ap, subst, arith, length-append}
use Rattle.pls_search.specs.PointedPlace.{PointsTo}
use Rattle.pls_centroid.proofs.Parents.{each_push, pointed_all}
use Rattle.pls_centroid.proofs.rooted.parents_of.Goals as goal

pub loop-place-preserved : goal.loop-place-preserved
loop-place-preserved c =
    let rows = c.args.net.now in
    let parents = c.loop-place.parents.items in
    let place = c.loop-place.place in
    let found = c.pointed_place.result in
    let many = c.loop-place.invariant.each in
    let all = c.in_ok-push.ensures.items in
    let Right : ℕ → Option ℕ → Type 0 =
    λ place found. PointsTo rows place found × IfSome found (λ to. to < length rows) in
    record {
      each = let size = ap length all in omega (
        arith,
        size,
        many,
        length-append parents
            (found ∷ []),
      );
      to = subst (λ (items : List (Option ℕ)). (place : ℕ) (found : Option ℕ)
          → slice_get items place ≡ Some found → Right place found) (sym all)
          (each_push Right parents place found many c.loop-place.invariant.to
          (c.pointed_place.ensures.to, c.pointed_place.ensures.within));
    }

pub returns : goal.returns
returns c = pointed_all c.args.net.now c.len.ensures.valid c.loop-place.parents.items
    (let ends = c.loop-place-test.false in let most = c.loop-place.auto.place-end in
    let many = c.loop-place.invariant.each in omega (arith, ends, most, many))
    c.loop-place.invariant.to
