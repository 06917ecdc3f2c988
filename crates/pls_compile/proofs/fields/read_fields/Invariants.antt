use Rattle.std.proofs.Common.{◌≡◌, ◌≤◌, drop, length, take}
use Rattle.pls_bits.specs.Gamma.{gamma_takes}
use Rattle.pls_numbers.specs.Fixed.{behind_numbers}
use Rattle.pls_numbers.specs.Numbers.{left_in}
use Rattle.pls_compile.proofs.fields.read_fields.Given as goal

-- the numbers so far, and those that are left, are all
abbrev pub invariant-loop-i : goal.invariant-loop-i
invariant-loop-i l = record {
  long : length l.values ≡ 8;
  within : l.i ≤ length l.kinds;
  all : left_in gamma_takes l.kinds l.bits
      ≡ behind_numbers (take l.i l.values) (left_in gamma_takes (drop l.i l.kinds) l.cursor);
}
