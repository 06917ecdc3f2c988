use Rattle.std.proofs.Common.{◌∙◌}
use Rattle.pls_facts.proofs.Lists.{map-take_more}
use Rattle.pls_parts.specs.Parts.{tag_of}
use Rattle.pls_parts.proofs.label_parts.tags_of.Goals as goal

pub loop-i-preserved : goal.loop-i-preserved
loop-i-preserved c =
    c.in_ok-push.ensures.items
    ∙ map-take_more tag_of c.args.labels.now c.loop-i.i c.bits.result c.loop-i.tags.items _
    c.loop-i.invariant c.bits.ensures c.tag_of.ensures
