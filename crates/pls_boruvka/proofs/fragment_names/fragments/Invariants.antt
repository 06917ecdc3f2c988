use Rattle.std.proofs.Common.{◌≡◌, Some, length, slice_get}
use Rattle.pls_configuration.specs.declared.row.NodeRow.{NodeRow}
use Rattle.pls_boruvka.specs.Fragments.{JoinedChainEnds}
use Rattle.pls_boruvka.specs.inner.Tops.{Each}
use Rattle.pls_boruvka.proofs.fragment_names.fragments.Given as goal

abbrev pub invariant-loop-top : goal.invariant-loop-top
invariant-loop-top l =
    (length l.names.items ≡ l.top-index)
    × Each (λ place name. (row : NodeRow) → slice_get l.net place ≡ Some row
    → JoinedChainEnds l.net l.joined row.id name) l.names.items
