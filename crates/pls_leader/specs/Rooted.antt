-- What the schemes of a root have in common.
use Rattle.std.specs.Prelude.{ℕ, ◌==◌, Bool}
use Rattle.std.specs.Bool.{beq}

-- the depth is 0 exactly where the identity is the root
abbrev pub is_0_at_root_alone : ℕ → ℕ → ℕ → Bool
is_0_at_root_alone id root depth = beq (depth == 0) (id == root)
