use Rattle.std.proofs.Common.{◌≡◌, ℕ, ◌<◌, true, Some, slice_get}
use Rattle.pls_configuration.specs.declared.row.NodeRow.{NodeRow}
use Rattle.pls_scheme.specs.Marked.{AreSaidBy}
use Rattle.pls_scheme.specs.Reading.{read_where}
use Rattle.pls_pathmax.specs.Labels.{PathMaxLabel}
use Rattle.pls_pathmax.specs.Rules.{other_edges_are_heavy}
use Rattle.pls_pathmax.proofs.outside.other_edges_are_heavy.Given as goal

-- rule 6 holds at the nodes so far
abbrev pub invariant-loop-i : goal.invariant-loop-i
invariant-loop-i l = (say : ℕ → PathMaxLabel) → AreSaidBy say l.net l.labels → (place : ℕ)
    (row : NodeRow) → place < l.i → slice_get l.net place ≡ Some row
    → other_edges_are_heavy (read_where say row) ≡ true
