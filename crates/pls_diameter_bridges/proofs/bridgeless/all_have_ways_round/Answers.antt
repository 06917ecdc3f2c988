use Rattle.std.proofs.Common.{refl, arith}
use Rattle.pls_diameter_bridges.proofs.Crossed.{all_round, round_more, ways_round}
use Rattle.pls_diameter_bridges.proofs.bridgeless.all_have_ways_round.Goals as goal

pub returns-then-not-branch : goal.returns-then-not-branch
returns-then-not-branch c = (
  λ no. absurd (cc),
  λ holds.
      let yes = c.in_ok-have_ways_round.ensures.1
      (ways_round c.args.net.now holds c.loop-place.place) in
      absurd (cc),
)

pub loop-place-preserved : goal.loop-place-preserved
loop-place-preserved c =
    round_more c.args.net.now c.loop-place.place c.loop-place.invariant
    (c.in_ok-have_ways_round.ensures.0 (cc))

pub returns : goal.returns
returns c = (
  λ yes. all_round c.args.net.now c.len-place-end.ensures.valid c.requires c.loop-place.place
      (let past = c.loop-place-test.false in omega (arith, past, c.len-place-end.ensures.len))
      c.loop-place.invariant,
  λ holds. refl,
)
