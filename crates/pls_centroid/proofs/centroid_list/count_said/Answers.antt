use Rattle.std.proofs.Common.{◌∙◌, List, Option, None, get_or, sym, ap}
use Rattle.pls_centroid.specs.declared.level.CentroidLevel.{CentroidLevel}
use Rattle.pls_centroid.proofs.Saying.{count-end, count-more}
use Rattle.pls_centroid.proofs.centroid_list.count_said.Goals as goal

pub returns-in_default : goal.returns-in_default
returns-in_default c =
    count-end c.args.rounds.now c.args.place c.loop-number.number c.loop-number-test.true
    c.index-rounds-number.result c.index-rounds-number.is c.loop-number.invariant
    (sym c.in_default.is ∙ c.level_at.ensures
    ∙ ap (λ (round : List (Option CentroidLevel)). get_or round c.args.place None)
    c.deref.ensures.value)

pub loop-number-preserved : goal.loop-number-preserved
loop-number-preserved c =
    count-more c.args.rounds.now c.args.place c.loop-number.number c.loop-number-test.true
    c.index-rounds-number.result c.index-rounds-number.is c.loop-number.invariant c.in-Some.field-0
    (sym c.in-Some.is ∙ c.level_at.ensures
    ∙ ap (λ (round : List (Option CentroidLevel)). get_or round c.args.place None)
    c.deref.ensures.value)
