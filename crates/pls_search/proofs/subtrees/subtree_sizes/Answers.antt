use Rattle.std.proofs.Common.{◌≡◌, ℕ, arith, length, replicate, subst}
use Rattle.std.proofs.lemmas.List.{get_or-replicate, length-replicate}
use Rattle.pls_search.specs.inner.Passing.{IsPassing, visits_from}
use Rattle.pls_search.proofs.Passed.{passed_sizes}
use Rattle.pls_search.proofs.Passing.{passing_start}
use Rattle.pls_search.proofs.Totals.{the_totals}
use Rattle.pls_search.proofs.subtrees.subtree_sizes.Goals as goal

pub loop-place-init : goal.loop-place-init
loop-place-init c =
    let totals = the_totals c.args.parents.now c.requires.within c.requires.never_returns in
    rw c.in_ok-sizes.ensures
    (passing_start c.args.parents.now totals.0 totals.1 c.in_ok-waits.waits.items
    (replicate (length c.args.parents.now) 1) c.in_ok-waits.ensures
    (length-replicate (length c.args.parents.now) 1)
    (λ v within. get_or-replicate (length c.args.parents.now) v 1 0 within))

pub returns : goal.returns
returns c =
    let past = c.loop-place-test.false in
    let end = c.loop-place.auto.place-end in
    let same : c.loop-place.place ≡ length c.args.parents.now = omega (arith, past, end) in
    passed_sizes c.args.parents.now c.loop-place.waits.items c.loop-place.sizes.items
    (subst (λ (place : ℕ). IsPassing c.args.parents.now (visits_from place)
    c.loop-place.waits.items c.loop-place.sizes.items) same c.loop-place.invariant)
