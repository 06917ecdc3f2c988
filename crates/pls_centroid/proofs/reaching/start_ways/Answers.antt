use Rattle.std.proofs.Common.{◌≡◌, ◌∷◌, [], ℕ, List, Option, Some, length, slice_get, sym, ap, subst, arith, length-append}
use Rattle.pls_centroid.specs.declared.reaching.Way.{Way}
use Rattle.pls_centroid.specs.inner.Reaching.{start_at}
use Rattle.pls_centroid.proofs.Parents.{each_push}
use Rattle.pls_centroid.proofs.reaching.start_ways.Goals as goal

pub loop-place-preserved : goal.loop-place-preserved
loop-place-preserved c =
    let ways : List (Option Way) = c.loop-place.ways.items in
    let place = c.loop-place.place in
    let found : Option Way = c.start_at.result in
    let many = c.loop-place.invariant.each in
    let all = c.in_ok-push.ensures.items in
    let Right : ℕ → Option Way → Type 0 =
    λ place entry. entry ≡ start_at c.args.tops.now c.args.centroids.now place in
    record {
      each = let size = ap length all in omega (arith, size, many, length-append ways (found ∷ []));
      entry = subst (λ (items : List (Option Way)). (place : ℕ) (entry : Option Way)
          → slice_get items place ≡ Some entry → Right place entry) (sym all)
          (each_push Right ways place found many c.loop-place.invariant.entry c.start_at.ensures);
    }
