use Rattle.std.proofs.Common.{refl, arith}
use Rattle.pls_diameter_bridges.proofs.Reached.{all_reach, reach_more, reaches_each}
use Rattle.pls_diameter_bridges.proofs.diameter.has_diameter_at_most.Goals as goal

pub returns-then-not-branch : goal.returns-then-not-branch
returns-then-not-branch c = (
  λ no. absurd (cc),
  λ holds.
      let yes = c.in_ok-reaches_all.ensures.1
      (reaches_each c.args.net.now c.args.most c.loop-place.place holds) in
      absurd (cc),
)

pub loop-place-preserved : goal.loop-place-preserved
loop-place-preserved c =
    reach_more c.args.net.now c.args.most c.loop-place.place c.loop-place.invariant
    (c.in_ok-reaches_all.ensures.0 (cc))

pub returns : goal.returns
returns c = (
  λ yes. all_reach c.args.net.now c.args.most c.loop-place.place
      (let past = c.loop-place-test.false in omega (arith, past, c.len-place-end.ensures.len))
      c.loop-place.invariant,
  λ holds. refl,
)
