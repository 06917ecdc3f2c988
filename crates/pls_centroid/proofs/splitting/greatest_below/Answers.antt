use Rattle.std.proofs.Common.{◌≡◌, ◌∙◌, ◌+◌, ◌<◌, ℕ, max, None, Some, length, get_or, set, sym, ap, subst, arith}
use Rattle.std.proofs.lemmas.List.{get_or_default}
use Rattle.std.proofs.lemmas.Option.{slice_get-get_or}
use Rattle.pls_search.specs.SubtreeSizes.{HasParentAt}
use Rattle.pls_centroid.specs.inner.Rooted.{AreGreatestBelow}
use Rattle.pls_centroid.proofs.Loops.{greatest_none, greatest_set}
use Rattle.pls_centroid.proofs.splitting.greatest_below.Goals as goal
use Rattle.pls_centroid.proofs.splitting.greatest_below.Goals.{in-None, in-Some}

pub loop-place-preserved : goal.loop-place-preserved
loop-place-preserved c =
    let left = c.args.left.now in
    let sizes = c.args.sizes.now in
    let greatest = c.loop-place.greatest.items in
    let place = c.loop-place.place in
    let within : place < length left = c.loop-place-test.true in
    let each = c.requires.each in
    let many = c.loop-place.invariant.each in
    elim c.match-left-place.branch [
      | in-Some w ↦
          let parent = w.in-Some.parent in
          let up : HasParentAt left place parent =
          slice_get-get_or left place None within ∙ ap Some w.in-Some.is in
          let inside = c.requires.inside place parent up in
          let in_greatest : parent < length greatest = omega (arith, inside, many) in
          let size : ℕ = get_or sizes place 0 in
          let is : w.max.result ≡ max size (get_or greatest parent 0) = w.max.ensures
          ∙ ap (max size) (w.index.ensures
          ∙ get_or_default greatest parent w.index.result.now 0 in_greatest) in
          subst (AreGreatestBelow left sizes (place + 1))
          (sym (ap (λ greatest. greatest.items) w.greatest-is ∙ ap (set greatest parent) is))
          (greatest_set left sizes place greatest parent size up
          (slice_get-get_or sizes place 0 (omega (arith, within, each))) in_greatest
          c.loop-place.invariant)
      | in-None w ↦ subst (AreGreatestBelow left sizes (place + 1))
          (sym (ap (λ greatest. greatest.items) w.greatest-is))
          (greatest_none left sizes place greatest
          (slice_get-get_or left place None within ∙ ap Some w.in-None.is) c.loop-place.invariant)
    ]
