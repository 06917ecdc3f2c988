use Rattle.std.proofs.Common.{◌∙◌}
use Rattle.pls_facts.proofs.Lists.{take_one_more}
use Rattle.pls_parts.proofs.label_parts.lend_all.Goals as goal

pub loop-i-preserved : goal.loop-i-preserved
loop-i-preserved g c =
    c.in_ok-push.ensures.pushed
    ∙ take_one_more (g.L.Labels.listed c.args.labels.now) c.loop-i.i c.bits.result c.loop-i.lent
    c.loop-i.invariant c.bits.ensures
