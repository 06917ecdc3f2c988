use Rattle.std.proofs.Common.{◌≡◌, ◌++◌, [], take}
use Rattle.std.specs.List.{flat_map}
use Rattle.pls_numbers.specs.Numbers.{codes_of}
use Rattle.pls_universal.specs.Map.{numbers_of_row}
use Rattle.pls_universal.proofs.writing.append_rows.Given as goal

-- the codes of those so far
abbrev pub invariant-loop-row : goal.invariant-loop-row
invariant-loop-row g l = l.bits ≡ l.initial.bits
    ++ codes_of g.C.NumCode.code [] (flat_map numbers_of_row (take l.row-index l.rows))
