use Rattle.std.proofs.Common.{◌≡◌, map, take, Some}
use Rattle.pls_components.proofs.flood.all_numbers.Given as goal

abbrev pub invariant-loop-number : goal.invariant-loop-number
invariant-loop-number l = map Some l.numbers.items ≡ take l.number-index l.found
