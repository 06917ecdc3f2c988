use Rattle.std.proofs.Common.{◌-◌, ◌*◌, refl, arith}
use Rattle.pls_trial.proofs.Made.{ids_last, last_connected, last_minimum, ports_last, ready_alone, ready_others}
use Rattle.pls_trial.proofs.trial.trial_network.Goals as goal

pub put_tree-requires-clause-ready : goal.put_tree-requires-clause-ready
put_tree-requires-clause-ready c =
    let most = c.requires.nodes.1 in
    ready_alone c.args.nodes (2 * (c.args.nodes - 1)) c.in_ok-net.net c.in_ok-net.ensures
    (omega arith)

pub put_others-requires-clause-ready : goal.put_others-requires-clause-ready
put_others-requires-clause-ready c =
    ready_others c.args.nodes c.args.seed c.new-draws.result c.put_tree.new.draws c.in_ok-net.net
    c.put_tree.new.net _ c.requires.nodes.0 c.in_ok-net.ensures c.new-draws.ensures
    c.in_ok-put_tree.ensures.put c.in_ok-put_tree.ensures.drawn refl c.requires.nodes.1

pub point-requires-clause-ids : goal.point-requires-clause-ids
point-requires-clause-ids c =
    ids_last c.args.nodes c.args.seed c.new-draws.result c.put_tree.new.draws c.in_ok-net.net
    c.put_tree.new.net c.put_others.new.net c.requires.nodes.0 c.in_ok-net.ensures
    c.new-draws.ensures c.in_ok-put_tree.ensures.put c.in_ok-put_tree.ensures.drawn
    c.in_ok-put_others.ensures.put

pub point-requires-clause-linked : goal.point-requires-clause-linked
point-requires-clause-linked c =
    ports_last c.args.nodes c.args.seed c.new-draws.result c.put_tree.new.draws c.in_ok-net.net
    c.put_tree.new.net c.put_others.new.net c.requires.nodes.0 c.in_ok-net.ensures
    c.new-draws.ensures c.in_ok-put_tree.ensures.put c.in_ok-put_tree.ensures.drawn
    c.in_ok-put_others.ensures.put

pub returns-clause-connected : goal.returns-clause-connected
returns-clause-connected c =
    last_connected c.args.nodes c.args.seed c.new-draws.result c.put_tree.new.draws c.in_ok-net.net
    c.put_tree.new.net c.put_others.new.net c.requires.nodes.0 c.in_ok-net.ensures
    c.new-draws.ensures c.in_ok-put_tree.ensures.put c.in_ok-put_tree.ensures.drawn
    c.in_ok-put_others.ensures.put c.point.new.net c.point.ensures c.is_valid.ensures

pub returns-clause-lightest : goal.returns-clause-lightest
returns-clause-lightest c =
    last_minimum c.args.nodes c.args.seed c.new-draws.result c.put_tree.new.draws c.in_ok-net.net
    c.put_tree.new.net c.put_others.new.net c.requires.nodes.0 c.in_ok-net.ensures
    c.new-draws.ensures c.in_ok-put_tree.ensures.put c.in_ok-put_tree.ensures.drawn
    c.in_ok-put_others.ensures.put c.point.new.net c.point.ensures c.is_valid.ensures
