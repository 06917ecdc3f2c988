use Rattle.std.proofs.Common.{◌∙◌, ◌++◌, ◌∷◌, [], ap, sym}
use Rattle.pls_scheme.specs.Reading.{port_with, reading}
use Rattle.pls_distance.specs.declared.spt.SptLabel.{SptLabel}
use Rattle.pls_distance.specs.inner.Gathering.{spt_tally}
use Rattle.pls_distance.proofs.spt.SptRulesJudgesInPlace.pass.Goals as goal

pub returns : goal.returns
returns g c id state mine theirs ports up many own_read own_same label_read label_same is =
    c.with.ensures id state mine ports up many is
    ∙ ap (λ (label : SptLabel).
    spt_tally (reading id state mine (ports ++ port_with c.args.weight label ∷ []))) (sym label_same)
