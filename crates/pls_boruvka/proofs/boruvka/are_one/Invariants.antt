use Rattle.std.proofs.Common.{◌≡◌, ◌<◌, ℕ}
use Rattle.pls_boruvka.specs.inner.Choices.{top_at}
use Rattle.pls_boruvka.proofs.boruvka.are_one.Given as goal

abbrev pub invariant-loop-top : goal.invariant-loop-top
invariant-loop-top l =
    (place : ℕ) → place < l.top-index → top_at l.tops place ≡ top_at l.tops 0
