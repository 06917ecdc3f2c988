use Rattle.std.proofs.Common.{◌≡◌, ◌*◌, fold}
use Rattle.pls_trial.specs.Generator.{draw, other_links, with_link}
use Rattle.pls_trial.proofs.trial.put_others.Given as goal

abbrev pub invariant-loop : goal.invariant-loop
invariant-loop l = (l.net ≡ fold with_link l.fn.net (other_links l.fn.nodes l.counter l.fn.draws))
    × (l.draws ≡ draw l.fn.draws (3 * l.counter))
