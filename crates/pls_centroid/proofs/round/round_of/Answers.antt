use Rattle.std.proofs.Common.{sym, subst}
use Rattle.pls_centroid.specs.inner.Rooted.{AreLeft, AreTopsOf}
use Rattle.pls_centroid.proofs.OneRound.{AreCentroids, AreWays, round_said, round_taken}
use Rattle.pls_centroid.proofs.round.round_of.Goals as goal

pub returns-clause-said : goal.returns-clause-said
returns-clause-said c number rooted flags =
    let rows = c.args.net.now in
    let parents = c.args.parents.now in
    let weights = c.args.weights.now in
    let taken = c.args.taken.now in
    let left = c.as_slice-left.result.now in
    let tops = c.as_slice-tops.result.now in
    let centroids = c.as_slice-centroids.result.now in
    let ways = c.as_slice.result.now in
    round_said rows parents weights rooted number taken flags left
    (subst (AreLeft parents taken) (sym c.as_slice-left.ensures.value) c.in_ok-left.ensures.left)
    tops (subst (AreTopsOf left) (sym c.as_slice-tops.ensures.value) c.in_ok-tops.ensures.tops)
    centroids (subst (AreCentroids left tops) (sym c.as_slice-centroids.ensures.value)
    c.in_ok-centroids.ensures.centroids) ways
    (subst (AreWays left tops centroids weights) (sym c.as_slice.ensures.value)
    c.in_ok-ways.ensures.ways) c.in_ok-said.said.items c.in_ok-said.ensures

pub returns-clause-taken : goal.returns-clause-taken
returns-clause-taken c number rooted flags =
    let rows = c.args.net.now in
    let parents = c.args.parents.now in
    let weights = c.args.weights.now in
    let taken = c.args.taken.now in
    let left = c.as_slice-left.result.now in
    let tops = c.as_slice-tops.result.now in
    let centroids = c.as_slice-centroids.result.now in
    round_taken rows parents weights rooted number taken flags left
    (subst (AreLeft parents taken) (sym c.as_slice-left.ensures.value) c.in_ok-left.ensures.left)
    tops (subst (AreTopsOf left) (sym c.as_slice-tops.ensures.value) c.in_ok-tops.ensures.tops)
    centroids (subst (AreCentroids left tops) (sym c.as_slice-centroids.ensures.value)
    c.in_ok-centroids.ensures.centroids) c.in_ok-taken.taken.items c.in_ok-taken.ensures
