-- The digits read so far stand for the number.
use Rattle.std.proofs.Common.{ℕ, ◌+◌, List, ◌∷◌, length}
use Rattle.pls_lines.specs.inner.Digits.{IsOfDigits}
use Rattle.pls_lines.proofs.numbers.with_digits.Given as goal

abbrev pub invariant-loop-digit : goal.invariant-loop-digit
invariant-loop-digit l = (digits : List ℕ) × IsOfDigits digits l.number ((48 + l.first) ∷ l.text) l.rest

abbrev pub decreases-loop-digit : goal.decreases-loop-digit
decreases-loop-digit l = length l.rest
