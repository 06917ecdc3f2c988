use Rattle.std.proofs.Common.{◌≡◌, ℕ, ◌<◌, Some, slice_get}
use Rattle.pls_configuration.specs.declared.row.NodeRow.{NodeRow}
use Rattle.pls_scheme.specs.Judging.{AllHold}
use Rattle.pls_scheme.specs.Marked.{AreSaidBy}
use Rattle.pls_scheme.specs.Reading.{read_where}
use Rattle.pls_scheme.proofs.holding.hold_everywhere.Given as goal

-- the rules hold at the nodes so far
abbrev pub invariant-loop-i : goal.invariant-loop-i
invariant-loop-i g l =
    (say : ℕ → g.row.R-Format-Label.Denot) → AreSaidBy say l.net l.labels
    → (place : ℕ) (row : NodeRow) → place < l.i → slice_get l.net place ≡ Some row
    → AllHold (g.R.Judgement.rules l.rules (read_where say row))
