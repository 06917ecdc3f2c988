use Rattle.std.proofs.Common.{◌∙◌}
use Rattle.pls_facts.proofs.Lists.{map-take_more}
use Rattle.pls_scheme.specs.inner.Looks.{seen_in}
use Rattle.pls_numbers.specs.Shape.{said_by}
use Rattle.pls_scheme.proofs.round.look_at_all.Goals as goal

pub loop-i-preserved : goal.loop-i-preserved
loop-i-preserved g c =
    c.in_ok-push.ensures.items
    ∙ map-take_more (seen_in (said_by (g.R.Format.Format.shape (g.R.Judgement.format c.args.rules.now)) g.R.Code.NumCode.takes) (g.R.JudgesInPlace.glance c.args.rules.now))
    (g.L.Labels.listed c.args.labels.now) c.loop-i.i c.bits.result c.loop-i.looked.items c.look.result
    c.loop-i.invariant c.bits.ensures c.look.ensures
