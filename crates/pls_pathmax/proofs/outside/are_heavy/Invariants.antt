use Rattle.std.proofs.Common.{◌≡◌, ℕ, ◌<◌, true, Some, map, slice_get}
use Rattle.pls_scheme.specs.Marked.{AreSaidBy}
use Rattle.pls_scheme.specs.Reading.{ReadPort, port_where, reading}
use Rattle.pls_pathmax.specs.Labels.{PathMaxLabel}
use Rattle.pls_pathmax.specs.Rules.{is_heavy_outside}
use Rattle.pls_pathmax.proofs.outside.are_heavy.Given as goal

-- it holds at the ports so far
abbrev pub invariant-loop-p : goal.invariant-loop-p
invariant-loop-p l = (say : ℕ → PathMaxLabel) → AreSaidBy say l.net l.labels → (id number : ℕ)
    (port : ReadPort PathMaxLabel) → number < l.p
    → slice_get (map (port_where say) l.ports) number ≡ Some port
    → is_heavy_outside (reading id l.state l.own (map (port_where say) l.ports)) number port ≡ true
