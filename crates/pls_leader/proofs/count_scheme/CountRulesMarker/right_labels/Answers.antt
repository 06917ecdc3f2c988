use Rattle.std.proofs.Common.{ℕ, List, Option, sym, subst}
use Rattle.pls_facts.specs.Parents.{NoParentsReturn}
use Rattle.pls_search.specs.SubtreeSizes.{HasParentAt}
use Rattle.pls_leader.proofs.Counted.{none_returns, parents_within}
use Rattle.pls_leader.proofs.count_scheme.CountRulesMarker.right_labels.Goals as goal

pub subtree_sizes-requires-clause-within : goal.subtree_sizes-requires-clause-within
subtree_sizes-requires-clause-within g c =
    rw c.deref-2.ensures.value
    (parents_within c.args.net.now c.is_valid.ensures c.in_ok-levels.levels.items
    c.in_ok-levels.ensures c.in_ok-parents.parents.items
    (rw c.deref.ensures.value at c.in_ok-parents.ensures))

pub subtree_sizes-requires-clause-never_returns : goal.subtree_sizes-requires-clause-never_returns
subtree_sizes-requires-clause-never_returns g c =
    subst (λ (parents : List (Option ℕ)). NoParentsReturn (HasParentAt parents))
    (sym c.deref-2.ensures.value)
    (none_returns c.args.net.now c.is_valid.ensures c.in_ok-levels.levels.items
    c.in_ok-levels.ensures c.in_ok-parents.parents.items
    (rw c.deref.ensures.value at c.in_ok-parents.ensures))

pub returns-clause-holds : goal.returns-clause-holds
returns-clause-holds g c = c.are_counted.ensures.0 c.if-not-are_counted.false
