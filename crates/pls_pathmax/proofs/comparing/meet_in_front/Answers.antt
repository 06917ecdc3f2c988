use Rattle.std.proofs.Common.{◌∙◌, ◌+◌, ◌<◌, ◌||◌, ℕ, Bool, List, take, sym, ap, arith}
use Rattle.pls_centroid.specs.declared.level.CentroidLevel.{CentroidLevel}
use Rattle.pls_pathmax.specs.inner.Glance.{all_whole}
use Rattle.pls_pathmax.proofs.Compared.{meet_from}
use Rattle.pls_pathmax.proofs.Looked.{front_meet_next}
use Rattle.pls_pathmax.proofs.comparing.meet_in_front.Goals as goal

pub returns-then-meet_lightly : goal.returns-then-meet_lightly
returns-then-meet_lightly g c =
    let place : ℕ = c.loop-place.place in
    let less : place < c.args.count = c.loop-place-test.true in
    let here : List CentroidLevel = take c.args.count (all_whole c.args.mine.now) in
    let there : List CentroidLevel = take c.args.count (all_whole c.args.theirs.now) in
    sym (c.loop-place.invariant
    ∙ front_meet_next c.args.weight c.args.count place c.args.mine.now c.args.theirs.now
    c.whole.result c.whole-in-loop-place.result less (omega (arith, c.told-mine, c.requires, less))
    (omega (arith, c.told-theirs, c.requires, less)) c.whole.ensures c.whole-in-loop-place.ensures
    ∙ ap (λ (meets : Bool). meets || meet_from c.args.weight here there (place + 1))
    (sym c.meet_lightly.ensures ∙ c.if-meet_lightly.true))

pub loop-place-preserved : goal.loop-place-preserved
loop-place-preserved g c =
    let place : ℕ = c.loop-place.place in
    let less : place < c.args.count = c.loop-place-test.true in
    let here : List CentroidLevel = take c.args.count (all_whole c.args.mine.now) in
    let there : List CentroidLevel = take c.args.count (all_whole c.args.theirs.now) in
    c.loop-place.invariant
    ∙ front_meet_next c.args.weight c.args.count place c.args.mine.now c.args.theirs.now
    c.whole.result c.whole-in-loop-place.result less (omega (arith, c.told-mine, c.requires, less))
    (omega (arith, c.told-theirs, c.requires, less)) c.whole.ensures c.whole-in-loop-place.ensures
    ∙ ap (λ (meets : Bool). meets || meet_from c.args.weight here there (place + 1))
    (sym c.meet_lightly.ensures ∙ c.if-meet_lightly.false)
