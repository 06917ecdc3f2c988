use Rattle.std.proofs.Common.{◌≡◌, ◌∙◌, ◌+◌, ◌<◌, ℕ, List, Option, None, Some, length, get_or, set, slice_get, sym, ap, subst, arith}
use Rattle.std.proofs.lemmas.List.{get_or_default, length-set}
use Rattle.std.proofs.lemmas.Option.{slice_get-get_or}
use Rattle.pls_search.specs.SubtreeSizes.{AreSubtreeSizes}
use Rattle.pls_centroid.specs.inner.Rooted.{AreFirstCentral, AreGreatestBelow, first_of}
use Rattle.pls_centroid.proofs.Loops.{central_is, centroids_all, first_more}
use Rattle.pls_centroid.proofs.Noting.{first_within}
use Rattle.pls_centroid.proofs.splitting.centroids_of.Goals as goal

pub loop-place-preserved : goal.loop-place-preserved
loop-place-preserved c =
    let left = c.args.left.now in
    let tops = c.args.tops.now in
    let sizes : List ℕ = c.as_slice-sizes.result.now in
    let below : List ℕ = c.as_slice-below.result.now in
    let centroids = c.loop-place.centroids.items in
    let count = c.loop-place.place in
    let top : ℕ = get_or tops count 0 in
    let are : AreSubtreeSizes left sizes =
    subst (AreSubtreeSizes left) (sym c.as_slice-sizes.ensures.value) c.in_ok-sizes.ensures in
    let greatest : AreGreatestBelow left sizes (length left) below =
    subst (AreGreatestBelow left sizes (length left)) (sym c.as_slice-below.ensures.value)
    c.in_ok-below.ensures in
    let within : count < length left = c.loop-place-test.true in
    let in_tops : count < length tops = let each = c.requires.each in omega (arith, each, within) in
    let at : slice_get tops count ≡ Some top = slice_get-get_or tops count 0 in_tops in
    let inside : top < length left = c.requires.tops count 0 in_tops in
    let many = are.each in
    let more = greatest.each in
    let long = c.loop-place.invariant.each in
    record {
      each = omega (arith, long, length-set centroids top c.first_of.result);
      first = λ rows edges stage.
          subst (λ (found : Option ℕ). AreFirstCentral rows edges tops (count + 1)
          (set centroids top found)) (sym (c.first_of.ensures
          ∙ ap (λ (found : Option ℕ). first_of found c.is_central-central.result count)
          (c.index.ensures ∙ get_or_default centroids top c.index.result.now None
          (omega (arith, inside, long)))))
          (first_more rows edges left tops stage sizes below are greatest count top centroids
          c.is_central-central.result at
          (c.is_central-central.ensures ∙ central_is rows edges left tops stage sizes below are
          greatest count top (get_or sizes top 0) (get_or sizes count 0) (get_or below count 0) at
          (slice_get-get_or sizes top 0 (omega (arith, inside, many)))
          (slice_get-get_or sizes count 0 (omega (arith, within, many)))
          (slice_get-get_or below count 0 (omega (arith, within, more))))
          (omega (arith, inside, long)) (c.loop-place.invariant.first rows edges stage));
      inside = λ place found stands. first_within centroids (length left) count top
          c.is_central-central.result within (omega (arith, inside, long))
          c.loop-place.invariant.inside place found
          (ap (λ (found : Option ℕ). slice_get (set centroids top found) place)
          (sym (c.first_of.ensures ∙ ap (λ (found : Option ℕ). first_of found
          c.is_central-central.result count) (c.index.ensures
          ∙ get_or_default centroids top c.index.result.now None
          (omega (arith, inside, long))))) ∙ stands);
    }

pub returns-clause-centroids : goal.returns-clause-centroids
returns-clause-centroids c rows edges stage =
    centroids_all rows edges c.args.left.now c.args.tops.now stage c.loop-place.centroids.items
    c.loop-place.place
    (let ends = c.loop-place-test.false in let most = c.loop-place.auto.place-end in
    omega (arith, ends, most))
    (c.loop-place.invariant.first rows edges stage)
