use Rattle.std.proofs.Common.{◌∙◌, ◌≤◌, ◌*◌, ◌^◌, All, List, length, get_or, sym, ap, subst}
use Rattle.pls_graph.specs.Places.{place_in}
use Rattle.pls_facts.proofs.Trees.{NoneReturns-IsTree}
use Rattle.pls_search.specs.Depths.{AreDepths}
use Rattle.pls_centroid.specs.Levels.{AreCentroidLists}
use Rattle.pls_centroid.specs.declared.level.CentroidLevel.{CentroidLevel}
use Rattle.pls_centroid.specs.inner.Rooted.{ArePointed, AreWeightsUp, IsByDepth}
use Rattle.pls_centroid.specs.inner.Rounds.{lists_said}
use Rattle.pls_centroid.proofs.Listing.{lists_few, lists_right}
use Rattle.pls_centroid.proofs.Saying.{lists_in}
use Rattle.pls_centroid.proofs.Staged.{by_depth_behind, depths_fall, pointed_returns, pointed_within}
use Rattle.pls_centroid.proofs.all_levels.centroid_levels.Goals as goal

pub unreachable-requires : goal.unreachable-requires
unreachable-requires c =
    let round = rw c.in_default.is at (c.in_ok-depths.ensures.returns) in
    NoneReturns-IsTree c.args.net.now c.len-count.ensures.valid c.requires.tree round.0 round.1
    round.2 round.3

pub all_rounds-requires-clause-rooted : goal.all_rounds-requires-clause-rooted
all_rounds-requires-clause-rooted c =
    let rows = c.args.net.now in
    let deep : AreDepths rows c.in-Some.depths.items =
    rw c.in-Some.is at (c.in_ok-depths.ensures.depths) in
    let pointed : ArePointed rows c.as_slice-parents.result.now =
    subst (ArePointed rows) (sym c.as_slice-parents.ensures.value) c.in_ok-parents.ensures in
    record {
      net = c.len-count.ensures.valid;
      tree = c.requires.tree;
      depth = λ id. get_or c.in-Some.depths.items (place_in rows id) 0;
      falls = depths_fall rows c.len-count.ensures.valid c.in-Some.depths.items deep;
      pointed = pointed;
      weigh = subst (AreWeightsUp rows c.as_slice-parents.result.now)
          (sym c.as_slice-weights.ensures.value)
          (c.in_ok-weights.ensures c.as_slice-parents.result.now pointed);
    }

pub all_rounds-requires-clause-inside : goal.all_rounds-requires-clause-inside
all_rounds-requires-clause-inside c = pointed_within c.args.net.now c.as_slice-parents.result.now
    (subst (ArePointed c.args.net.now) (sym c.as_slice-parents.ensures.value)
    c.in_ok-parents.ensures)

pub all_rounds-requires-clause-never_returns : goal.all_rounds-requires-clause-never_returns
all_rounds-requires-clause-never_returns c =
    let rows = c.args.net.now in
    let deep : AreDepths rows c.in-Some.depths.items =
    rw c.in-Some.is at (c.in_ok-depths.ensures.depths) in
    pointed_returns rows c.as_slice-parents.result.now
    (subst (ArePointed rows) (sym c.as_slice-parents.ensures.value) c.in_ok-parents.ensures)
    (λ id. get_or c.in-Some.depths.items (place_in rows id) 0)
    (depths_fall rows c.len-count.ensures.valid c.in-Some.depths.items deep)

pub all_rounds-requires-clause-order : goal.all_rounds-requires-clause-order
all_rounds-requires-clause-order c =
    let rows = c.args.net.now in
    let deep : AreDepths rows c.in-Some.depths.items =
    rw c.in-Some.is at (c.in_ok-depths.ensures.depths) in
    by_depth_behind rows c.len-count.ensures.valid c.as_slice-parents.result.now
    (subst (ArePointed rows) (sym c.as_slice-parents.ensures.value) c.in_ok-parents.ensures)
    c.as_slice-depths.result.now c.as_slice-order.result.now
    (subst (AreDepths rows) (sym c.as_slice-depths.ensures.value) deep)
    (subst (IsByDepth c.as_slice-depths.result.now) (sym c.as_slice-order.ensures.value)
    c.in_ok-order.ensures)

pub returns-clause-levels : goal.returns-clause-levels
returns-clause-levels c =
    let rows = c.args.net.now in
    subst (AreCentroidLists rows) (sym (c.in_ok-lists.ensures
    ∙ ap (lists_said (lists_in c.in_ok-rounds.rounds.items)) c.len-count.ensures.len))
    (lists_right rows c.len-count.ensures.valid c.requires.tree
    (lists_in c.in_ok-rounds.rounds.items) c.in_ok-rounds.ensures)

pub returns-clause-few : goal.returns-clause-few
returns-clause-few c =
    let rows = c.args.net.now in
    subst (All (λ (list : List CentroidLevel). 2 ^ length list ≤ 2 * length rows))
    (sym (c.in_ok-lists.ensures
    ∙ ap (lists_said (lists_in c.in_ok-rounds.rounds.items)) c.len-count.ensures.len))
    (lists_few rows (lists_said (lists_in c.in_ok-rounds.rounds.items) (length rows))
    (lists_right rows c.len-count.ensures.valid c.requires.tree
    (lists_in c.in_ok-rounds.rounds.items) c.in_ok-rounds.ensures))
