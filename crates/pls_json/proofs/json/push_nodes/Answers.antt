use Rattle.pls_json.specs.Json.{node_text}
use Rattle.pls_json.proofs.Texts.{one_more}
use Rattle.pls_json.proofs.json.push_nodes.Goals as goal

pub loop-i-preserved : goal.loop-i-preserved
loop-i-preserved c =
    one_more node_text c.args.rows.now c.loop-i.i _ _ _ _ _ c.loop-i-test.true c.index-rows-i.is
    c.loop-i.invariant c.in_ok-push_node.ensures
