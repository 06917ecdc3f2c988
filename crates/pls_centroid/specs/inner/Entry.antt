-- The level of three numbers.
use Rattle.std.specs.Prelude.{ℕ}
use Rattle.pls_centroid.specs.declared.level.CentroidLevel.{CentroidLevel}

-- the level with these numbers
abbrev pub level_with : ℕ → ℕ → ℕ → CentroidLevel
level_with centroid hops greatest =
    record { centroid = centroid; hops = hops; greatest = greatest }
