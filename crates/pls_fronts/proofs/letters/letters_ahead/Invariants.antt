use Rattle.std.proofs.Common.{◌≡◌, ◌+◌, drop}
use Rattle.pls_fronts.specs.LetterFront.{letters_ahead}
use Rattle.pls_fronts.proofs.letters.letters_ahead.Given as goal

-- all characters so far are letters, and so how many stand in front is said by what is left
abbrev pub invariant-loop-character : goal.invariant-loop-character
invariant-loop-character l = record {
  place : l.count ≡ l.character-index;
  left : letters_ahead l.text ≡ l.count + letters_ahead (drop l.character-index l.text);
}
