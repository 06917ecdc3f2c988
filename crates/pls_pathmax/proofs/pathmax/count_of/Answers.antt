use Rattle.std.proofs.Common.{◌∙◌, sym, ap}
use Rattle.std.proofs.lemmas.Option.{same_Some}
use Rattle.pls_levels.specs.declared.label.LevelHead.{LevelHead}
use Rattle.pls_pathmax.specs.inner.Reading.{head_said}
use Rattle.pls_pathmax.proofs.pathmax.count_of.Goals as goal

pub returns-in-Some : goal.returns-in-Some
returns-in-Some g c label is = ap (λ (head : LevelHead). head.count)
    (same_Some c.in-Some.head (head_said label) (sym c.in-Some.is ∙ c.head_of.ensures label is))

pub returns-in-None : goal.returns-in-None
returns-in-None g c label is =
    absurd (let wrong = sym c.in-None.is ∙ c.head_of.ensures label is in cc)
