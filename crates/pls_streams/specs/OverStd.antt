-- What contracts see of a source or a sink over one of std's.
use Rattle.std.specs.Prelude.{ℕ}

-- a reader or a writer of std, and how many calls on it failed, counted up to 2^64 - 1
pub record OverStd (R : Type 0) : Type 0 where
  pub over : R
  pub faults : ℕ
