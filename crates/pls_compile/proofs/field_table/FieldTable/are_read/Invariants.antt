use Rattle.std.proofs.Common.{◌≡◌, true, take}
use Rattle.std.specs.Option.{is_some}
use Rattle.std.specs.List.{list_all}
use Rattle.pls_compile.specs.FieldTable.{said_at}
use Rattle.pls_compile.proofs.field_table.FieldTable.are_read.Given as goal

-- the labels at the places so far are read
abbrev pub invariant-loop-p : goal.invariant-loop-p
invariant-loop-p l = list_all (λ place. is_some (said_at l.self place)) (take l.p l.places) ≡ true
