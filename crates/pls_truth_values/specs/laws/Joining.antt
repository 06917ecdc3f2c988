-- Edges that join all nodes: where they are as few as a tree has they are distinct, and the lists
-- of such edges are the spanning trees.
use Rattle.std.proofs.Common.{◌≡◌, ◌∙◌, ◌+◌, ◌-◌, ◌≤◌, ◌↔◌, ℕ, inl, inr, Bool, List, length, get_or, sym, subst, arith, Contains, remove}
use Rattle.std.proofs.lemmas.List.{get_or_default}
use Rattle.std.proofs.lemmas.List.Edits.{get_or-remove_below, length-remove}
use Rattle.pls_configuration.specs.Walk.{Edge, JoinAll}
use Rattle.pls_graph.proofs.Members.{Contains-filter, Contains-from_filter}
use Rattle.pls_facts.specs.Classes.{joins_all}
use Rattle.pls_facts.specs.SpanningTree.{AreDistinct, IsSpanningTree}
use Rattle.pls_facts.proofs.Classes.{class-joined, joins_all-JoinAll, one_class}
use Rattle.pls_facts.proofs.Distinct.{Contains-remove}
use Rattle.pls_facts.proofs.Paths.{AreJoined-among}
use Rattle.pls_truth_values.specs.SearchTests.{all_lists, spanning_trees}
use Rattle.pls_truth_values.specs.laws.AllLists.{Contains-all_lists, Contains-from_all_lists}

-- edges that join distinct nodes and are one fewer than these differ
pub few_differ : (edges : List Edge) (nodes : List ℕ) → AreDistinct nodes
    → length edges + 1 ≡ length nodes → JoinAll edges nodes → AreDistinct edges
few_differ edges nodes distinct few joined i j d before within same =
    let many = one_class left nodes distinct (λ u v u_in v_in. class-joined left u v
    (AreJoined-among edges left kept u v (joined u v u_in v_in))) in
    omega (arith, many, few, length-remove edges j within)
  where
    left : List Edge
    left = remove edges j

    first : Edge
    first = get_or edges i d

    kept : (edge : Edge) → Contains edges edge → Contains left edge
    kept edge in' =
        elim (Contains-remove edges (get_or edges j d)
        (j, within, get_or_default edges j (get_or edges j d) d within) edge in') [
          | inl is ↦ subst (Contains left) (same ∙ sym is) (
            i,
            omega (arith, before, within, length-remove edges j within),
            get_or-remove_below edges j first i before within
                ∙ get_or_default edges i first d (omega (arith, before, within)),
          )
          | inr stays ↦ stays
        ]

-- exactly the spanning trees are listed
pub spanning_listed : (edges : List Edge) (nodes : List ℕ) → AreDistinct nodes → 1 ≤ length nodes
    → (tree : List Edge)
    → Contains (spanning_trees edges nodes) tree ↔ IsSpanningTree edges tree nodes
spanning_listed edges nodes distinct some tree = (
  λ in'.
      let kept = Contains-from_filter passes lists tree in' in
      let listed = Contains-from_all_lists edges (length nodes - 1) tree kept.0 in
      let few : length tree + 1 ≡ length nodes = omega (arith, listed.0, some) in
      let joined = (joins_all-JoinAll tree nodes).0 kept.1 in
      record {
        among = listed.1;
        distinct = few_differ tree nodes distinct few joined;
        few = few;
        joined = joined;
      },
  λ spans.
      let many : length tree ≡ length nodes - 1 = omega (arith, spans.few) in
      Contains-filter passes lists tree
      (subst (λ (count : ℕ). Contains (all_lists edges count) tree) many
      (Contains-all_lists edges tree spans.among))
      ((joins_all-JoinAll tree nodes).1 spans.joined),
)
  where
    passes : List Edge → Bool
    passes tree = joins_all tree nodes

    lists : List (List Edge)
    lists = all_lists edges (length nodes - 1)
