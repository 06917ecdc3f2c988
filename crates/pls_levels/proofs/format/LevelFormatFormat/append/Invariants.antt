use Rattle.std.proofs.Common.{◌≡◌, ◌++◌, [], take}
use Rattle.std.specs.List.{flat_map}
use Rattle.pls_numbers.specs.Numbers.{codes_of}
use Rattle.pls_levels.specs.Labels.{items_of, numbers_of}
use Rattle.pls_levels.proofs.format.LevelFormatFormat.append.Given as goal

-- behind the numbers in front the codes of the levels so far
abbrev pub invariant-loop-i : goal.invariant-loop-i
invariant-loop-i g l = l.bits ≡ l.initial.bits ++ codes_of g.C.NumCode.code []
    (flat_map (numbers_of g.K.LevelKind.form)
    (take l.i (items_of g.K.LevelKind.form l.label.levels)))
