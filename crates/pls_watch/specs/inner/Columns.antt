-- Versions of labels with the numbers of these labels, as two lists.
use Rattle.std.specs.Prelude.{ℕ, List}

-- the versions, the numbers of their labels, and for how many there is room
pub record VersionColumns : Type 0 where
  pub versions : List ℕ
  pub labels : List ℕ
  pub room : ℕ
