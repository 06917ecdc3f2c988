use Rattle.std.proofs.Common.{◌≡◌, ◌++◌, [], length, take}
use Rattle.std.specs.List.{flat_map}
use Rattle.pls_numbers.specs.Numbers.{codes_of}
use Rattle.pls_universal.specs.Map.{map_of, numbers_of_row}
use Rattle.pls_universal.proofs.writing.write_map.Given as goal

-- the code of the count, and those of the records so far
abbrev pub invariant-loop-i : goal.invariant-loop-i
invariant-loop-i g l = l.bits ≡ g.C.NumCode.code (length l.net)
    ++ codes_of g.C.NumCode.code [] (flat_map numbers_of_row (take l.i (map_of l.net)))
