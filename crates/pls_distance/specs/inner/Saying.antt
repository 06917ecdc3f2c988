-- Labels by what they say.
use Rattle.std.specs.Prelude.{ℕ}
use Rattle.pls_distance.specs.declared.spt.SptLabel.{SptLabel}

-- the label of a root, a depth and a distance
abbrev pub far_says : ℕ → ℕ → ℕ → SptLabel
far_says root depth dist = record { root = root; depth = depth; dist = dist }
