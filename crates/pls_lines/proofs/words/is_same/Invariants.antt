-- The bytes that were compared are the same.
use Rattle.std.proofs.Common.{◌≡◌, take}
use Rattle.pls_lines.proofs.words.is_same.Given as goal

abbrev pub invariant-loop-place : goal.invariant-loop-place
invariant-loop-place l = take l.place l.text ≡ take l.place l.word
