use Rattle.std.proofs.Common.{◌∙◌, sym}
use Rattle.pls_leader.specs.inner.Nearest.{is_level_nearer}
use Rattle.pls_leader.proofs.Nearest.{least_next, least_stays, take_whole}
use Rattle.pls_leader.proofs.parents.nearest_at.Goals.{then-is_above, else-is_above}
use Rattle.pls_leader.proofs.parents.nearest_at.Goals as goal

pub loop-other-preserved : goal.loop-other-preserved
loop-other-preserved c = elim c.if-is_above.branch [
  | then-is_above w ↦
      rw (w.nearest-is, w.lesser.ensures)
      (least_next (is_level_nearer c.args.levels.now c.args.place) c.places-other-items.result.now
      c.loop-other.other-index c.loop-other-test.true c.loop-other.nearest c.loop-other.invariant
      (sym c.is_above.ensures ∙ w.if-is_above.true))
  | else-is_above w ↦
      rw w.nearest-is
      (least_stays (is_level_nearer c.args.levels.now c.args.place) c.places-other-items.result.now
      c.loop-other.other-index c.loop-other-test.true c.loop-other.nearest c.loop-other.invariant
      (sym c.is_above.ensures ∙ w.if-is_above.false))
]

pub returns : goal.returns
returns c =
    rw (← c.places-other-items.ensures.places)
    (take_whole (is_level_nearer c.args.levels.now c.args.place) c.places-other-items.result.now
    c.loop-other.other-index c.loop-other.nearest c.loop-other-test.false c.loop-other.invariant)
