use Rattle.std.proofs.Common.{◌∙◌, arith}
use Rattle.pls_search.proofs.Below.{number_any}
use Rattle.pls_search.proofs.Totals.{parent_within}
use Rattle.pls_search.proofs.Waits.{waits_few, waits_more, waits_more_at}
use Rattle.pls_search.proofs.subtrees.visits_and_children.Goals.{in-Some, in_default}
use Rattle.pls_search.proofs.subtrees.visits_and_children.Goals as goal

pub overflow_add-index_mut : goal.overflow_add-index_mut
overflow_add-index_mut c =
    let inside = parent_within c.args.parents.now c.requires.within c.loop-place.place
    c.in-Some.parent c.loop-place-test.true c.in-Some.is in
    let low = waits_few c.args.parents.now c.loop-place.place c.loop-place.waits.items
    c.loop-place.invariant c.in-Some.parent inside in
    let few = c.requires.few in
    let each = c.loop-place.invariant.each in
    let is = c.index_mut.ensures.value in
    let same = number_any c.loop-place.waits.items c.in-Some.parent c.index_mut.result.now
    (omega (arith, inside, each)) in
    let end = c.loop-place-test.true in
    omega (arith, low, few, is, same, end)

pub loop-place-preserved : goal.loop-place-preserved
loop-place-preserved c = elim c.match-parents-place.branch [
  | in-Some w ↦
      let inside = parent_within c.args.parents.now c.requires.within c.loop-place.place
      w.in-Some.parent c.loop-place-test.true w.in-Some.is in
      let each = c.loop-place.invariant.each in
      let same = number_any c.loop-place.waits.items w.in-Some.parent w.index_mut.result.now
      (omega (arith, inside, each)) in
      rw (w.waits-is, w.index_mut.ensures.value ∙ same)
      (waits_more_at c.args.parents.now c.loop-place.place c.loop-place.waits.items
      c.loop-place.invariant w.in-Some.parent inside w.in-Some.is)
  | in_default w ↦ rw w.waits-is (waits_more c.args.parents.now c.loop-place.place
      c.loop-place.waits.items c.loop-place.invariant w.in_default.is)
]
