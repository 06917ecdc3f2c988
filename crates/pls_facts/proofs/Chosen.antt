-- What holds of each spanning tree of least weight: the two rules are met, and an edge that is
-- first to leave a set of nodes is one of its edges, where of equal weights tree edges come first.
use Rattle.std.proofs.Common.{ℕ, ◌<◌, ◌≤◌, inl, inr, Bool, List, set, ap, subst, arith, Contains, remove}
use Rattle.std.proofs.lemmas.List.Sums.{sum_by-set}
use Rattle.std.proofs.lemmas.Bool.{cases_lt}
use Rattle.pls_configuration.specs.Walk.{Edge, JoinAll}
use Rattle.pls_graph.proofs.Joined.{AreJoined-adjacent}
use Rattle.pls_facts.specs.Path.{IsPath, IsAlong}
use Rattle.pls_facts.specs.SpanningTree.{IsSpanningTree}
use Rattle.pls_facts.specs.Lightest.{IsEdgeOrder, IsFirstLeaving, IsLightest, Leaves, OthersAreHeavy, weight_of}
use Rattle.pls_facts.specs.inner.Graphs.{IsGraph}
use Rattle.pls_facts.proofs.CycleRule.{path_between}
use Rattle.pls_facts.proofs.Decided.{cases_Edge, same_Bool}
use Rattle.pls_facts.proofs.Distinct.{Contains-remove, decide_Contains}
use Rattle.pls_facts.proofs.Exchanges.{AreJoined-removed, IsSpanningTree-set}
use Rattle.pls_facts.proofs.Paths.{AreJoined-each, crossing}

module _ (edges tree : List Edge) (nodes : List ℕ) (spans : IsSpanningTree edges tree nodes) where
  -- the condition of the cycle rule is met: else an exchange would make a lighter tree
  pub OthersAreHeavy-lightest : IsLightest edges tree nodes → OthersAreHeavy edges tree
  OthersAreHeavy-lightest lightest edge along path in' outside is_path at on =
      let new : List Edge = set tree at.0 edge in
      let least : weight_of tree ≤ weight_of new = lightest new
      (IsSpanningTree-set edges tree nodes spans edge along path in' outside is_path at on) in
      let stands = ap (λ (edge : Edge). edge.weight) at.2 in
      omega (
        arith,
        least,
        stands,
        sum_by-set (λ (edge : Edge). edge.weight) tree at.0 edge along at.1,
      )

  module _ (graph : IsGraph edges nodes) where
    -- a tree has no edge to spare: some of its edges that join all nodes are all
    pub Contains-joining : (part : List Edge)
        → ((edge : Edge) → Contains part edge → Contains tree edge) → JoinAll part nodes
        → (edge : Edge) → Contains tree edge → Contains part edge
    Contains-joining part among joined edge in' = elim (decide_Contains cases_Edge part edge) [
      | inl there ↦ there
      | inr lacks ↦
          let ends = graph.ends edge (spans.among edge in') in
          let left : List Edge = remove tree in'.0 in
          absurd (AreJoined-removed edges tree nodes spans graph.distinct edge in'
          (AreJoined-each part left (λ u v (other, other_in, joins).
          AreJoined-adjacent left u v (other, kept lacks other other_in, joins))
          edge.a edge.b (joined edge.a edge.b ends.0 ends.1)))
    ]
      where
        kept : (Contains part edge → ⊥) → (other : Edge) → Contains part other
            → Contains (remove tree in'.0) other
        kept lacks other other_in =
            elim (Contains-remove tree edge in' other (among other other_in)) [
              | inl same ↦ absurd (lacks (subst (Contains part) same other_in))
              | inr stays ↦ stays
            ]

    -- in an order that puts a tree edge before each other edge that is no lighter
    module _ (Before : Edge → Edge → Type 0) (order : IsEdgeOrder edges Before)
        (tree_first : (one other : Edge) → Contains tree one → (Contains tree other → ⊥)
        → one.weight ≤ other.weight → Before one other) where
      -- an edge outside the tree that is first to leave a set gives a lighter spanning tree
      pub lighter_tree : (inside : ℕ → Bool) (edge : Edge) → Contains edges edge
          → IsFirstLeaving edges Before inside edge → (Contains tree edge → ⊥)
          → (other : List Edge) × IsSpanningTree edges other nodes
          × (weight_of other < weight_of tree)
      lighter_tree inside edge in' leaving outside =
          let (path, is) : (path : List ℕ) × IsPath tree edge.a path edge.b =
          path_between edges tree nodes graph spans edge in' in
          let (old, at, on, leaves) : (old : Edge) × Contains tree old
          × IsAlong old edge.a path × Leaves old inside =
          crossing inside same_Bool tree edge.a edge.b path is.walk leaving.leaves in
          let later : Before edge old = leaving.first old (spans.among old at) leaves
          (λ same. outside (subst (Contains tree) same at)) in (
            set tree at.0 edge,
            IsSpanningTree-set edges tree nodes spans edge old path in' outside is at on,
            elim (cases_lt edge.weight old.weight) [
              | inl less ↦
                  let stands = ap (λ (edge : Edge). edge.weight) at.2 in
                  omega (
                    arith,
                    less,
                    stands,
                    sum_by-set (λ (edge : Edge). edge.weight) tree at.0 edge old at.1,
                  )
              | inr most ↦ absurd (order.irreflexive edge in' (order.transitive edge old edge in'
                  (spans.among old at) in' later (tree_first old edge at outside most)))
            ],
          )

      -- so where none is lighter, that edge is in the tree
      pub Contains-first_leaving : IsLightest edges tree nodes → (inside : ℕ → Bool) (edge : Edge)
          → Contains edges edge → IsFirstLeaving edges Before inside edge → Contains tree edge
      Contains-first_leaving lightest inside edge in' leaving =
          elim (decide_Contains cases_Edge tree edge) [
            | inl there ↦ there
            | inr outside ↦
                let (other, also, less) : (other : List Edge) × IsSpanningTree edges other nodes
                × (weight_of other < weight_of tree) =
                lighter_tree inside edge in' leaving outside in
                absurd (omega (arith, less, lightest other also))
          ]
