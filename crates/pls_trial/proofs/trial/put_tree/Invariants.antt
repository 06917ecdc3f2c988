use Rattle.std.proofs.Common.{◌≡◌, ◌*◌, fold}
use Rattle.pls_trial.specs.Generator.{draw, tree_links, with_link}
use Rattle.pls_trial.proofs.trial.put_tree.Given as goal

abbrev pub invariant-loop-i : goal.invariant-loop-i
invariant-loop-i l = (l.net ≡ fold with_link l.fn.net (tree_links l.i l.fn.draws))
    × (l.draws ≡ draw l.fn.draws (2 * l.i))
