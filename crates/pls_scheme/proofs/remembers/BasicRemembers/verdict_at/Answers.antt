use Rattle.std.proofs.Common.{◌∙◌, ap, map}
use Rattle.pls_scheme.specs.inner.Looks.{seen_in}
use Rattle.pls_scheme.proofs.LookedAt.{looked_kept}
use Rattle.pls_numbers.specs.Shape.{said_by}
use Rattle.pls_scheme.proofs.remembers.BasicRemembers.verdict_at.Goals as goal

pub verdict_at-requires-clause-looked : goal.verdict_at-requires-clause-looked
verdict_at-requires-clause-looked g c =
    let kept = g.R.Memory.GlanceMemory.glance_in_memory in
    ap (map kept) c.requires.remembered
    ∙ looked_kept kept g.R.Memory.GlanceMemory.keeping
    (seen_in (said_by (g.R.Format.Format.shape (g.R.Judgement.format c.args.self.now.rules)) g.R.Code.NumCode.takes) (g.R.JudgesInPlace.glance c.args.self.now.rules))
    g.met.R.Memory.GlanceMemory.memory_law c.args.labels.now
