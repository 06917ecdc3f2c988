use Rattle.std.proofs.Common.{◌≡◌, length}
use Rattle.pls_numbers.specs.Shape.{IsSpelled}
use Rattle.pls_scheme.proofs.Storing.{AreRightBefore}
use Rattle.pls_universal.specs.Map.{map_of}
use Rattle.pls_universal.specs.Reading.{map_label_with, map_shape}
use Rattle.pls_universal.proofs.marking.map_labels.Given as goal

-- the labels before number i are right
abbrev pub invariant-loop-i : goal.invariant-loop-i
invariant-loop-i g l = record {
  each : length l.labels ≡ length l.net;
  right : AreRightBefore
      (λ row bits. IsSpelled map_shape g.C.NumCode.code bits
      (map_label_with row.id (map_of l.net))) l.net l.labels l.i;
}
