use Rattle.std.proofs.Common.{◌≡◌, All, length}
use Rattle.pls_boruvka.specs.inner.Chosen.{levels_said}
use Rattle.pls_boruvka.proofs.Begun.{IsBegun}
use Rattle.pls_boruvka.proofs.Unjoined.{unjoined}
use Rattle.pls_boruvka.proofs.boruvka.boruvka_levels.Given as goal

abbrev pub invariant-loop-choices : goal.invariant-loop-choices
invariant-loop-choices l = record {
  each : All (λ all. length all ≡ length l.net) l.rounds.items;
  begun : IsBegun l.net l.joined (levels_said l.rounds.items (length l.net));
  noted : length l.noted ≡ length l.net;
  choices : length l.choices ≡ length l.net;
}

abbrev pub decreases-loop-choices : goal.decreases-loop-choices
decreases-loop-choices l = unjoined l.joined
