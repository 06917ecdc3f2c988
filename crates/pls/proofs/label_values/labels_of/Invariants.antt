use Rattle.std.proofs.Common.{◌≡◌, ◌<◌, ℕ, List, Bool, Some, length}
use Rattle.std.specs.Prelude.{slice_get}
use Rattle.pls.proofs.label_values.labels_of.Given as goal

-- the labels before number i say their values
abbrev pub invariant-loop-i : goal.invariant-loop-i
invariant-loop-i g l = record {
  each : length l.labels ≡ length l.values;
  spelled : (place : ℕ) (value : g.row.S-Label.Denot) (bits : List Bool) → place < l.i
      → slice_get l.values place ≡ Some value → slice_get l.labels place ≡ Some bits
      → g.S.Scheme.layout l.scheme bits value;
}
