use Rattle.pls_splice.proofs.NoLeader.{no_leader}
use Rattle.pls_splice.proofs.laws.leaderless.Goals as goal

pub returns : goal.returns
returns c = no_leader c.args.net.now c.is_valid.ensures c.args.labels.now c.args.ring.now
    c.requires.read c.args.pair.first c.args.pair.second c.requires.pair
