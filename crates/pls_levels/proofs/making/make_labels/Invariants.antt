use Rattle.pls_levels.specs.Making.{AreMade}
use Rattle.pls_levels.proofs.making.make_labels.Given as goal

-- the labels so far are made of the lists so far
abbrev pub invariant-loop-place : goal.invariant-loop-place
invariant-loop-place g l =
    AreMade l.net l.root l.depths (g.K.LevelKind.lists_of l.lists) l.place l.labels.items
