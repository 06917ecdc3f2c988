use Rattle.std.proofs.Common.{◌≡◌, replicate}
use Rattle.pls_components.specs.inner.Numbers.{places_of_number}
use Rattle.pls_components.proofs.finding.one_component.Given as goal

abbrev pub invariant-loop-place : goal.invariant-loop-place
invariant-loop-place l = l.members.items ≡ places_of_number (replicate l.place 0) 0
