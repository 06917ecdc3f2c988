use Rattle.std.proofs.Common.{◌≡◌, ◌∷◌, [], ℕ, List, Option, Some, length, slice_get, sym, ap, subst, arith, length-append}
use Rattle.pls_centroid.specs.declared.level.CentroidLevel.{CentroidLevel}
use Rattle.pls_centroid.specs.inner.Rounds.{said_at}
use Rattle.pls_centroid.proofs.Parents.{each_push}
use Rattle.pls_centroid.proofs.round.levels_of_places.Goals as goal

pub loop-place-preserved : goal.loop-place-preserved
loop-place-preserved c =
    let said : List (Option CentroidLevel) = c.loop-place.said.items in
    let place = c.loop-place.place in
    let found : Option CentroidLevel = c.level_of_place.result in
    let many = c.loop-place.invariant.each in
    let all = c.in_ok-push.ensures.items in
    let Right : ℕ → Option CentroidLevel → Type 0 =
    λ place entry. entry ≡ said_at c.args.net.now c.args.taken.now c.args.tops.now
    c.args.centroids.now c.args.ways.now place in
    record {
      each = let size = ap length all in omega (arith, size, many, length-append said (found ∷ []));
      entry = subst (λ (items : List (Option CentroidLevel)). (place : ℕ)
          (entry : Option CentroidLevel) → slice_get items place ≡ Some entry
          → Right place entry) (sym all)
          (each_push Right said place found many c.loop-place.invariant.entry
          c.level_of_place.ensures);
    }
