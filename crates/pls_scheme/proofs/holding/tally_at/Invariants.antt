use Rattle.std.proofs.Common.{◌≡◌, ℕ, map, take}
use Rattle.pls_scheme.specs.Marked.{AreSaidBy}
use Rattle.pls_scheme.specs.Reading.{port_where}
use Rattle.pls_scheme.proofs.holding.tally_at.Given as goal

-- the tally of the ports so far
abbrev pub invariant-loop-p : goal.invariant-loop-p
invariant-loop-p g l =
    (say : ℕ → g.row.R-Format-Label.Denot) → AreSaidBy say l.net l.labels
    → l.tally ≡ g.R.Rules.tallied l.rules l.own (map (port_where say) (take l.p l.ports))
