use Rattle.std.proofs.Common.{◌≡◌, ◌+◌, drop}
use Rattle.pls_fronts.specs.NumberFront.{digits_ahead}
use Rattle.pls_fronts.proofs.digits.digits_ahead.Given as goal

-- all characters so far are digits, and so how many stand in front is said by what is left
abbrev pub invariant-loop-character : goal.invariant-loop-character
invariant-loop-character l = record {
  place : l.count ≡ l.character-index;
  left : digits_ahead l.text ≡ l.count + digits_ahead (drop l.character-index l.text);
}
