use Rattle.pls_splice.proofs.Parted.{two_parts}
use Rattle.pls_splice.proofs.laws.two_rings.Goals as goal

pub returns : goal.returns
returns c = two_parts c.args.net.now c.is_valid.ensures c.args.labels.now c.args.ring.now
    c.requires.read c.args.pair.first c.args.pair.second c.requires.pair
