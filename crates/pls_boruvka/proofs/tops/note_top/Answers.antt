use Rattle.std.proofs.Common.{◌≡◌, ◌∙◌, Some, sym}
use Rattle.pls_boruvka.specs.inner.Tops.{joined_parent}
use Rattle.pls_boruvka.proofs.Climbing.{AreNotedTops-more, IsTop-after, steps-fall, up-parent}
use Rattle.pls_boruvka.proofs.tops.note_top.Goals as goal

pub loop-noted-smaller : goal.loop-noted-smaller
loop-noted-smaller c =
    let parents = c.args.parents.now in
    let joined = c.args.joined.now in
    let place = c.loop-noted.place in
    steps-fall parents c.requires.falls place c.in-Some.parent c.loop-noted.invariant.0
    (up-parent parents joined place c.in-Some.parent
    (sym c.joined_parent.ensures ∙ c.in-Some.is))

pub loop-noted-preserved : goal.loop-noted-preserved
loop-noted-preserved c =
    let parents = c.args.parents.now in
    let joined = c.args.joined.now in
    let place = c.loop-noted.place in
    let parent = c.in-Some.parent in
    let (within, is, noted) = c.loop-noted.invariant in
    let follows : joined_parent parents joined place ≡ Some parent =
    sym c.joined_parent.ensures ∙ c.in-Some.is in (
      (c.requires.falls.falls place parent within
          (up-parent parents joined place parent follows)).0,
      IsTop-after parents joined place parent c.args.top follows is,
      AreNotedTops-more parents joined c.loop-noted.noted place c.args.top noted is,
    )

pub returns-in_default : goal.returns-in_default
returns-in_default c =
    let (within, is, noted) = c.loop-noted.invariant in
    AreNotedTops-more c.args.parents.now c.args.joined.now c.loop-noted.noted c.loop-noted.place
    c.args.top noted is
