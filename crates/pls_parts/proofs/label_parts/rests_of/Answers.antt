use Rattle.std.proofs.Common.{◌∙◌, drop}
use Rattle.pls_facts.proofs.Lists.{map-take_more}
use Rattle.pls_parts.proofs.label_parts.rests_of.Goals as goal

pub loop-i-preserved : goal.loop-i-preserved
loop-i-preserved c =
    c.in_ok-push.ensures.pushed
    ∙ map-take_more (drop 1) c.args.labels.now c.loop-i.i c.bits.result c.loop-i.rests _
    c.loop-i.invariant c.bits.ensures c.without_tag.ensures
