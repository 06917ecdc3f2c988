-- Labels by what they say.
use Rattle.std.specs.Prelude.{ℕ}
use Rattle.pls_leader.specs.declared.leader.LeaderLabel.{LeaderLabel}

-- the label of a root and a depth
abbrev pub leader_at : ℕ → ℕ → LeaderLabel
leader_at root depth = record { root = root; depth = depth }
