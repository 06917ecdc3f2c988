use Rattle.std.proofs.Common.{refl, arith}
use Rattle.pls_leader.proofs.Nearest.{all_counted_rows, counted_next, counted_state}
use Rattle.pls_leader.proofs.count_scheme.are_counted.Goals as goal

pub returns-then-state-len : goal.returns-then-state-len
returns-then-state-len c = (
  λ no. absurd (cc),
  λ counted.
      let same = counted_state c.args.net.now c.loop-i.i c.node.result.1 c.node.ensures.state
      counted in
      let differs = c.if-state-len.true in
      let len = c.len.ensures.len in
      absurd (grind (arith)),
)

pub loop-i-preserved : goal.loop-i-preserved
loop-i-preserved c =
    let same = c.if-state-len.false in
    let len = c.len.ensures.len in
    counted_next c.args.net.now c.loop-i.i c.node.result.1 c.node.ensures.state c.loop-i.invariant
    (grind (arith))

pub returns : goal.returns
returns c = (
  λ yes. all_counted_rows c.args.net.now c.loop-i.i
      (let past = c.loop-i-test.false in let len = c.len-i-end.ensures.len in omega (arith, past, len))
      c.loop-i.invariant,
  λ counted. refl,
)
