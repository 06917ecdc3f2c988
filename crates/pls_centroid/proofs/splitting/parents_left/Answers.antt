use Rattle.std.proofs.Common.{arith}
use Rattle.pls_centroid.proofs.LeftParents.{left_behind, left_inside, left_returns}
use Rattle.pls_centroid.proofs.splitting.parents_left.Goals as goal

pub returns-clause-inside : goal.returns-clause-inside
returns-clause-inside c =
    left_inside c.args.parents.now c.args.taken.now c.loop-place.left.items (record {
      each = let ends = c.loop-place-test.false in let most = c.loop-place.auto.place-end in
          let each = c.loop-place.invariant.each in omega (arith, ends, most, each);
      entry = c.loop-place.invariant.entry;
    }) c.requires.inside

pub returns-clause-never_returns : goal.returns-clause-never_returns
returns-clause-never_returns c =
    left_returns c.args.parents.now c.args.taken.now c.loop-place.left.items (record {
      each = let ends = c.loop-place-test.false in let most = c.loop-place.auto.place-end in
          let each = c.loop-place.invariant.each in omega (arith, ends, most, each);
      entry = c.loop-place.invariant.entry;
    }) c.requires.never_returns

pub returns-clause-order : goal.returns-clause-order
returns-clause-order c =
    left_behind c.args.parents.now c.args.taken.now c.loop-place.left.items (record {
      each = let ends = c.loop-place-test.false in let most = c.loop-place.auto.place-end in
          let each = c.loop-place.invariant.each in omega (arith, ends, most, each);
      entry = c.loop-place.invariant.entry;
    })
