use Rattle.pls_boruvka.specs.inner.Choices.{AreChoices}
use Rattle.pls_boruvka.proofs.choosing.choices_of.Given as goal

abbrev pub invariant-loop-place : goal.invariant-loop-place
invariant-loop-place l = AreChoices l.net l.tops l.place l.choices
