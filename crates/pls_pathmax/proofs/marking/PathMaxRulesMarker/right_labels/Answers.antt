use Rattle.std.proofs.Common.{◌∙◌, ◌↔◌, Bool, List, IsTrue, sym, subst}
use Rattle.std.proofs.lemmas.Bool.{true≢false}
use Rattle.pls_facts.specs.MinimumSpanningTree.{IsMinimumSpanningTree}
use Rattle.pls_pathmax.specs.Labels.{PathMaxLabel}
use Rattle.pls_pathmax.proofs.Decided.{TellsRule6, decided}
use Rattle.pls_pathmax.proofs.Made.{made_of_same}
use Rattle.pls_pathmax.proofs.marking.PathMaxRulesMarker.right_labels.Goals as goal

pub returns-then-other_edges_are_heavy-clause-right :
    goal.returns-then-other_edges_are_heavy-clause-right
returns-then-other_edges_are_heavy-clause-right g c =
    let rows = c.args.net.now in
    let only = rw c.in-Some.is at (c.in_ok-root.ensures.root) in
    let deep = rw c.in-Some.is at (c.in_ok-root.ensures.depths) in
    let labels = c.in_ok-labels.labels.items in
    made_of_same rows c.in-Some.root c.in-Some.depths.items _ c.in_ok-lists.lists
    c.root_and_depths.ensures.valid only deep c.in_ok-lists.ensures.levels c.deref.ensures.value
    labels c.in_ok-labels.ensures

pub returns-then-other_edges_are_heavy-clause-holds :
    goal.returns-then-other_edges_are_heavy-clause-holds
returns-then-other_edges_are_heavy-clause-holds g c =
    let rows = c.args.net.now in
    let only = rw c.in-Some.is at (c.in_ok-root.ensures.root) in
    let deep = rw c.in-Some.is at (c.in_ok-root.ensures.depths) in
    let is_tree = rw c.in-Some.is at (c.in_ok-root.ensures.holds) in
    let labels = c.in_ok-labels.labels.items in
    let told : Bool = c.other_edges_are_heavy.result in
    let right = made_of_same rows c.in-Some.root c.in-Some.depths.items _ c.in_ok-lists.lists
    c.root_and_depths.ensures.valid only deep c.in_ok-lists.ensures.levels c.deref.ensures.value
    labels c.in_ok-labels.ensures in
    let law : IsTrue told ↔ IsMinimumSpanningTree rows =
    decided rows c.root_and_depths.ensures.valid c.requires is_tree labels right told
    (subst (λ (labels : List PathMaxLabel). TellsRule6 rows labels told)
    c.as_slice.ensures.value c.other_edges_are_heavy.ensures) in
    law.0 c.if-other_edges_are_heavy.true

pub returns-clause-lacking : goal.returns-clause-lacking
returns-clause-lacking g c holds =
    let rows = c.args.net.now in
    let only = rw c.in-Some.is at (c.in_ok-root.ensures.root) in
    let deep = rw c.in-Some.is at (c.in_ok-root.ensures.depths) in
    let labels = c.in_ok-labels.labels.items in
    let told : Bool = c.other_edges_are_heavy.result in
    let right = made_of_same rows c.in-Some.root c.in-Some.depths.items _ c.in_ok-lists.lists
    c.root_and_depths.ensures.valid only deep c.in_ok-lists.ensures.levels c.deref.ensures.value
    labels c.in_ok-labels.ensures in
    let law : IsTrue told ↔ IsMinimumSpanningTree rows =
    decided rows c.root_and_depths.ensures.valid c.requires holds.tree labels right told
    (subst (λ (labels : List PathMaxLabel). TellsRule6 rows labels told)
    c.as_slice.ensures.value c.other_edges_are_heavy.ensures) in
    true≢false (sym (law.1 holds) ∙ c.if-other_edges_are_heavy.false)
