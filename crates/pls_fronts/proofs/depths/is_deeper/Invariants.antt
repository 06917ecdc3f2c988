use Rattle.std.proofs.Common.{◌≡◌, ◌≤◌, nat_lt, drop}
use Rattle.pls_fronts.specs.Depth.{deepest}
use Rattle.pls_fronts.proofs.depths.is_deeper.Given as goal

-- parentheses stand no more than so deep so far, and so whether they do is said by what is left
abbrev pub invariant-loop-character : goal.invariant-loop-character
invariant-loop-character l = record {
  shallow : l.depth ≤ l.most;
  left : nat_lt l.most (deepest 0 l.text)
      ≡ nat_lt l.most (deepest l.depth (drop l.character-index l.text));
}
