use Rattle.std.proofs.Common.{◌∙◌, [], ap, sym}
use Rattle.pls_scheme.specs.Reading.{reading}
use Rattle.pls_distance.specs.declared.spt.SptLabel.{SptLabel}
use Rattle.pls_distance.specs.inner.Gathering.{spt_tally}
use Rattle.pls_distance.proofs.spt.SptRulesJudgesInPlace.open.Goals as goal

pub returns : goal.returns
returns g c id state label same =
    c.before-2.ensures id state
    ∙ ap (λ (own : SptLabel). spt_tally (reading id state own [])) (sym same)
