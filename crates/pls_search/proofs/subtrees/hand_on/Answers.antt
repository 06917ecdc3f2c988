use Rattle.std.proofs.Common.{◌+◌, arith}
use Rattle.pls_search.specs.inner.Passing.{visits_from}
use Rattle.pls_search.proofs.Passing.{done_None, done_Some, waits_on}
use Rattle.pls_search.proofs.Totals.{parent_within}
use Rattle.pls_search.proofs.subtrees.hand_on.Goals as goal

pub returns-then-waits-place-gt0 : goal.returns-then-waits-place-gt0
returns-then-waits-place-gt0 c = record {
  passing = waits_on c.args.parents.now (visits_from (c.args.start + 1)) c.loop-waits.place
      c.loop-waits.invariant.0 c.loop-waits.waits c.loop-waits.sizes c.loop-waits.invariant.1
      c.if-waits-place-gt0.true;
}

pub returns-in_default : goal.returns-in_default
returns-in_default c = record {
  passing = done_None c.args.parents.now (visits_from (c.args.start + 1)) c.loop-waits.place
      c.loop-waits.invariant.0 c.loop-waits.waits c.loop-waits.sizes c.loop-waits.invariant.1
      (let none = c.if-waits-place-gt0.false in grind (arith)) c.in_default.is;
}

pub bounds-sizes-parent : goal.bounds-sizes-parent
bounds-sizes-parent c =
    let inside = parent_within c.args.parents.now c.requires.within c.loop-waits.place
    c.in-Some.parent c.loop-waits.invariant.0 c.in-Some.is in
    let each = c.loop-waits.invariant.1.sizes_each in
    omega (arith, inside, each)

pub bounds-sizes-parent-in-loop-waits : goal.bounds-sizes-parent-in-loop-waits
bounds-sizes-parent-in-loop-waits c =
    let inside = parent_within c.args.parents.now c.requires.within c.loop-waits.place
    c.in-Some.parent c.loop-waits.invariant.0 c.in-Some.is in
    let each = c.loop-waits.invariant.1.sizes_each in
    omega (arith, inside, each)

pub offset_bounds-sizes-parent : goal.offset_bounds-sizes-parent
offset_bounds-sizes-parent c =
    let inside = parent_within c.args.parents.now c.requires.within c.loop-waits.place
    c.in-Some.parent c.loop-waits.invariant.0 c.in-Some.is in
    let few = c.requires.few in
    omega (arith, inside, few)

pub loop-waits-preserved : goal.loop-waits-preserved
loop-waits-preserved c =
    let inside = parent_within c.args.parents.now c.requires.within c.loop-waits.place
    c.in-Some.parent c.loop-waits.invariant.0 c.in-Some.is in (
      inside,
      done_Some c.args.parents.now (visits_from (c.args.start + 1)) c.loop-waits.place
          c.loop-waits.invariant.0 c.loop-waits.waits c.loop-waits.sizes c.loop-waits.invariant.1
          (let none = c.if-waits-place-gt0.false in grind (arith)) c.in-Some.parent c.in-Some.is
          inside,
    )
