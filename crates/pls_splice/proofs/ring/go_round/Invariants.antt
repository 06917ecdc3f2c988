use Rattle.std.proofs.Common.{◌≡◌, ◌-◌, ◌<◌, ◌++◌, length}
use Rattle.pls_splice.specs.inner.Round.{places_from, places_round}
use Rattle.pls_splice.proofs.ring.go_round.Given as goal

abbrev pub invariant-loop : goal.invariant-loop
invariant-loop l = (l.here < length l.net)
    × (l.places.items ++ places_from l.net l.here l.before (l.count - l.counter)
    ≡ places_round l.net)
