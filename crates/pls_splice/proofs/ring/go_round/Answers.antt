use Rattle.pls_splice.specs.inner.Round.{places_round}
use Rattle.pls_splice.proofs.Rounding.{go_on, went_round}
use Rattle.pls_splice.proofs.ring.go_round.Goals as goal

pub loop-preserved : goal.loop-preserved
loop-preserved c = (
  c.other_neighbour-next.ensures.within,
  go_on c.args.net.now c.loop.here c.loop.before c.other_neighbour-next.result
      c.len-count.result c.loop.counter c.loop.places.items c.push.new.self.items _
      c.loop-test.true c.other_neighbour-next.ensures.next c.in_ok-push.ensures.items
      c.loop.invariant.1,
)

pub returns : goal.returns
returns c = went_round c.args.net.now c.loop.here c.loop.before c.len-count.result c.loop.counter
    c.loop.places.items (places_round c.args.net.now) c.loop-test.false c.loop.invariant.1
