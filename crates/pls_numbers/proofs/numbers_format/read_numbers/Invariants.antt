use Rattle.std.proofs.Common.{◌≡◌, ◌≤◌, [], length, take}
use Rattle.pls_numbers.specs.Fixed.{behind_numbers}
use Rattle.pls_numbers.specs.Numbers.{left_in}
use Rattle.pls_numbers.proofs.numbers_format.read_numbers.Given as goal

-- the numbers so far, and those that are left, are all
abbrev pub invariant-loop-i : goal.invariant-loop-i
invariant-loop-i g l = record {
  long : length l.numbers ≡ g.row.N;
  within : l.i ≤ g.row.N;
  all : left_in g.C.NumCode.takes [] l.bits ≡ behind_numbers (take l.i l.numbers) l.left;
}
