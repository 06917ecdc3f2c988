use Rattle.std.proofs.Common.{◌∙◌}
use Rattle.pls_facts.proofs.Lists.{map-take_more}
use Rattle.pls_recheck.proofs.monitor.remember_all.Goals as goal

pub loop-i-preserved : goal.loop-i-preserved
loop-i-preserved g c =
    c.in_ok-push.ensures.items
    ∙ map-take_more (g.K.Remembers.told c.args.checker.now) c.args.labels.now c.loop-i.i
    c.bits.result c.loop-i.memories.items c.in_ok-remember.field-0
    c.loop-i.invariant c.bits.ensures c.in_ok-remember.ensures
