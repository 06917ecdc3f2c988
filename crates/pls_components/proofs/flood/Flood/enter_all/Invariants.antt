use Rattle.std.proofs.Common.{take}
use Rattle.pls_components.specs.inner.Numbers.{EntersAll}
use Rattle.pls_components.proofs.flood.Flood.enter_all.Given as goal

abbrev pub invariant-loop-place : goal.invariant-loop-place
invariant-loop-place l = EntersAll l.initial.self l.self l.number (take l.place-index l.places)
