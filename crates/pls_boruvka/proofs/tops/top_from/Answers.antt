use Rattle.std.proofs.Common.{◌≡◌, ◌∙◌, ◌<◌, None, Some, length, sym, ap, arith}
use Rattle.std.proofs.lemmas.Option.{slice_get-get_or}
use Rattle.pls_boruvka.specs.inner.Tops.{joined_parent}
use Rattle.pls_boruvka.proofs.Climbing.{IsTop-before, Leads-more, steps-fall, up-parent}
use Rattle.pls_boruvka.proofs.tops.top_from.Goals as goal

pub returns-in-Some : goal.returns-in-Some
returns-in-Some c =
    let noted = c.args.noted.now in
    let place = c.loop-place.place in
    let (within, leads) = c.loop-place.invariant in
    let inside : place < length noted = omega (arith, within, c.requires.noted.each) in
    IsTop-before c.args.parents.now c.args.joined.now c.args.start place c.in-Some.top leads
    (c.requires.noted.top place c.in-Some.top
    (slice_get-get_or noted place None inside ∙ ap Some c.in-Some.is))

pub loop-place-smaller : goal.loop-place-smaller
loop-place-smaller c =
    let parents = c.args.parents.now in
    let joined = c.args.joined.now in
    let place = c.loop-place.place in
    let parent = c.in-Some-joined_parent.parent in
    steps-fall parents c.requires.falls place parent c.loop-place.invariant.0
    (up-parent parents joined place parent
    (sym c.joined_parent.ensures ∙ c.in-Some-joined_parent.is))

pub loop-place-preserved : goal.loop-place-preserved
loop-place-preserved c =
    let parents = c.args.parents.now in
    let joined = c.args.joined.now in
    let place = c.loop-place.place in
    let parent = c.in-Some-joined_parent.parent in
    let (within, leads) = c.loop-place.invariant in
    let follows : joined_parent parents joined place ≡ Some parent =
    sym c.joined_parent.ensures ∙ c.in-Some-joined_parent.is in (
      (c.requires.falls.falls place parent within
          (up-parent parents joined place parent follows)).0,
      Leads-more parents joined c.args.start place parent leads follows,
    )
