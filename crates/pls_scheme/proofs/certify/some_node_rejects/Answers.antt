use Rattle.pls_scheme.proofs.Rejecting.{some_node_rejects}
use Rattle.pls_scheme.proofs.certify.some_node_rejects.Goals as goal

pub returns : goal.returns
returns g c =
    let scheme = c.args.scheme.now in
    some_node_rejects (g.S.Checker.judge scheme) (g.S.Property.holds scheme)
    (g.met.S.Scheme.sound_law scheme) c.args.net.now c.is_valid.ensures c.requires.connected
    c.requires.lacking
