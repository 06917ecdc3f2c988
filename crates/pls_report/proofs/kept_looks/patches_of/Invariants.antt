use Rattle.std.proofs.Common.{◌≡◌, ◌≤◌, ◌+◌, ℕ, List, get_or, length, map, take}
use Rattle.std.specs.List.{sum}
use Rattle.pls_report.specs.inner.Renewed.{AreRenewed}
use Rattle.pls_report.proofs.Keeping.{ArePassed}
use Rattle.pls_report.proofs.kept_looks.patches_of.Given as goal

abbrev pub invariant-loop-i : goal.invariant-loop-i
invariant-loop-i l =
    (length l.renewed.items ≡ length l.rows)
    × (l.room + l.stays ≡ sum (take l.i l.renewed.items))
    × (l.stays ≤ sum (take l.i l.lengths))
    × ((k : ℕ) → l.i ≤ k → get_or l.renewed.items k 0 ≡ get_or l.lengths k 0)
    × ((lines : List (List ℕ)) → AreRenewed l.rows l.changed lines
    → l.lengths ≡ map (length {A = ℕ}) lines
    → ArePassed l.rows lines l.i l.patches l.stays l.renewed.items)
