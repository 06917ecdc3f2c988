use Rattle.std.proofs.Common.{◌≡◌, None, length, take}
use Rattle.pls_combine.specs.Converted.{all_converted, converted, first_unreadable}
use Rattle.pls_combine.proofs.any_scheme.AnyScheme.convert_labels.Given as goal

abbrev pub invariant-loop-place : goal.invariant-loop-place
invariant-loop-place g l = record {
  long : length l.into ≡ length l.labels;
  read : first_unreadable (converted g.C.NumCode.takes g.D.NumCode.code l.self) (take l.place l.labels)
      ≡ None;
  made : take l.place l.into
      ≡ all_converted (converted g.C.NumCode.takes g.D.NumCode.code l.self) (take l.place l.labels);
}
