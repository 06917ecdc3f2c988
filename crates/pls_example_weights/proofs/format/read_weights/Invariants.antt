use Rattle.std.proofs.Common.{◌≡◌, ◌≤◌, [], length}
use Rattle.pls_numbers.specs.Fixed.{behind_numbers}
use Rattle.pls_numbers.specs.Numbers.{left_in, with_number}
use Rattle.pls_example_weights.proofs.format.read_weights.Given as goal

-- the weights so far, and the numbers that are left, are all behind the count
abbrev pub invariant-loop : goal.invariant-loop
invariant-loop g l = record {
  small : l.count ≤ 4;
  within : l.counter ≤ l.count;
  many : length l.weights ≡ l.counter;
  all : left_in g.C.NumCode.takes [] l.bits ≡ with_number l.count (behind_numbers l.weights l.left);
}
