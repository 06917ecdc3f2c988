use Rattle.std.proofs.Common.{ℕ, Vec, Global}
use Rattle.pls_splice.specs.inner.Keys.{edge_key}
use Rattle.pls_splice.proofs.Keyed.{keys_more}
use Rattle.pls_splice.proofs.finding.edge_keys.Goals as goal

pub loop-i-preserved : goal.loop-i-preserved
loop-i-preserved c =
    keys_more (λ (words : Vec ℕ Global). words.items)
    (edge_key c.args.net.now c.args.labels.now c.args.ring.now) c.loop-i.keys.items
    c.push.new.self.items c.loop-i.i c.in_ok-edge_key.field-0 c.loop-i.invariant.0
    c.loop-i.invariant.1 c.in_ok-edge_key.ensures c.in_ok-push.ensures.items
