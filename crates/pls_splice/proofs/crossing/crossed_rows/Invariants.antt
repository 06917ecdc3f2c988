use Rattle.std.proofs.Common.{◌≡◌, ◌++◌, map, drop}
use Rattle.pls_splice.specs.Crossing.{cross_row}
use Rattle.pls_splice.proofs.crossing.crossed_rows.Given as goal

abbrev pub invariant-loop-i : goal.invariant-loop-i
invariant-loop-i l = l.rows ++ map (cross_row l.ends) (drop l.i l.net) ≡ map (cross_row l.ends) l.net
