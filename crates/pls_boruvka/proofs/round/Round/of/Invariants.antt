use Rattle.pls_boruvka.proofs.Numbers.{AreNumbered}
use Rattle.pls_boruvka.proofs.round.Round.of.Given as goal

abbrev pub invariant-loop-top : goal.invariant-loop-top
invariant-loop-top l =
    AreNumbered l.net l.choices l.tops l.chosen.items l.noted l.numbers.items l.top-index
