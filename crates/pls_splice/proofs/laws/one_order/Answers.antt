use Rattle.pls_splice.proofs.OneOrder as orders
use Rattle.pls_splice.proofs.laws.one_order.Goals as goal

pub returns : goal.returns
returns c = orders.one_order c.args.net.now c.is_valid.ensures c.args.ring.now c.args.other.now
    c.requires.one c.requires.other
