use Rattle.std.proofs.Common.{◌≡◌, drop, length}
use Rattle.pls_numbers.specs.Fixed.{behind_numbers}
use Rattle.pls_numbers.specs.Numbers.{left_in}
use Rattle.pls_numbers.proofs.fields.read_fields.Given as goal

-- the numbers so far, and those that are left, are all
abbrev pub invariant-loop-kind : goal.invariant-loop-kind
invariant-loop-kind g l = record {
  many : length l.values.items ≡ l.kind-index;
  all : left_in g.C.NumCode.takes l.kinds l.bits
      ≡ behind_numbers l.values.items (left_in g.C.NumCode.takes (drop l.kind-index l.kinds) l.cursor);
}
