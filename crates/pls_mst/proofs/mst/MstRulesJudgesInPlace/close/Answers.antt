use Rattle.std.proofs.Common.{◌∙◌, ap}
use Rattle.pls_scheme.specs.Judging.{judged_from}
use Rattle.pls_mst.specs.declared.glance.MstGlance.{MstGlance}
use Rattle.pls_mst.proofs.MorePorts.{head_kept}
use Rattle.pls_mst.proofs.mst.MstRulesJudgesInPlace.close.Goals as goal

pub returns : goal.returns
returns g c label ports said glance above tally =
    c.judged_from.ensures
    ∙ ap (judged_from 3)
    (c.rules.ensures c.args.id label ports said glance
    (c.is_placed-placed.ensures label ports (ap (λ (seen : MstGlance). seen.head) glance)
    (head_kept c.args.state ports _ _ c.head_above.ensures above)) tally)
