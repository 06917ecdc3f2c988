-- The cycle rule: a spanning tree is of least weight where the tree edges on the path between the
-- ends of each other edge are no heavier than that edge.
use Rattle.std.proofs.Common.{◌≡◌, ◌≢◌, ℕ, ◌<◌, ◌≤◌, ◌⊎◌, inl, inr, true, nat_le, List, [], ◌∷◌, set, refl, ap, subst, arith, Contains, remove}
use Rattle.std.specs.List.{filter}
use Rattle.std.proofs.lemmas.Bool.{cases_eq, cases_lt, leb-true, le-leb}
use Rattle.std.proofs.lemmas.List.Sums.{sum_by-cons, sum_by-remove, sum_by-set}
use Rattle.pls_configuration.specs.Walk.{Edge, AreJoined, Walk}
use Rattle.pls_graph.proofs.Members.{Contains-cons_cases, Contains-filter, Contains-first, Contains-from_filter, Contains-later}
use Rattle.pls_facts.specs.Classes.{class_of}
use Rattle.pls_facts.specs.Path.{IsPath, IsAlong}
use Rattle.pls_facts.specs.SpanningTree.{AreDistinct, IsSpanningTree}
use Rattle.pls_facts.specs.Lightest.{IsLightest, OthersAreHeavy, weight_of}
use Rattle.pls_facts.specs.inner.Graphs.{IsGraph}
use Rattle.pls_facts.proofs.Classes.{class-joined}
use Rattle.pls_facts.proofs.Decided.{cases_Edge}
use Rattle.pls_facts.proofs.Distinct.{AreDistinct-first, AreDistinct-rest, Contains-remove, Contains-set_kept, Contains-set_new, decide_Contains}
use Rattle.pls_facts.proofs.Exchanges.{IsSpanningTree-set, class-removed}
use Rattle.pls_facts.proofs.Paths.{Walk-among, crossing, path_of}

-- some of the edges weigh no more than all of them
weight_of-part : (part edges : List Edge) → AreDistinct part
    → ((edge : Edge) → Contains part edge → Contains edges edge) → weight_of part ≤ weight_of edges
weight_of-part [] edges distinct among = omega arith
weight_of-part (edge ∷ part) edges distinct among =
    let weigh : Edge → ℕ = λ edge. edge.weight in
    let at : Contains edges edge = among edge (Contains-first edge part) in
    let rest = weight_of-part part (remove edges at.0) (AreDistinct-rest edge part distinct)
    (λ other in'. elim (Contains-remove edges edge at other
    (among other (Contains-later edge part other in'))) [
      | inl same ↦ absurd (AreDistinct-first edge part distinct
          (subst (Contains part) same in'))
      | inr kept ↦ kept
    ]) in
    let stands = ap weigh at.2 in
    omega (arith, rest, sum_by-cons weigh edge part, sum_by-remove weigh edges at.0 edge at.1)

-- those of some edges that are no heavier
abbrev pub no_heavier : ℕ → List Edge → List Edge
no_heavier most edges = filter (λ edge. nat_le edge.weight most) edges

-- the rule without paths: each edge outside has its ends joined by tree edges that are no heavier
abbrev pub JoinsLightly : List Edge → List Edge → Type 0
JoinsLightly edges tree =
    (edge : Edge) → Contains edges edge → (Contains tree edge → ⊥)
    → AreJoined (no_heavier edge.weight tree) edge.a edge.b

module _ (edges tree : List Edge) (nodes : List ℕ) (graph : IsGraph edges nodes)
    (spans : IsSpanningTree edges tree nodes) where
  -- the path in the tree between the ends of an edge
  pub path_between : (edge : Edge) → Contains edges edge
      → (path : List ℕ) × IsPath tree edge.a path edge.b
  path_between edge in' =
      let ends = graph.ends edge in' in
      let (walked, walk) : (walked : List ℕ) × Walk tree edge.a walked edge.b =
      spans.joined edge.a edge.b ends.0 ends.1 in
      path_of tree edge.a edge.b walked walk

  pub JoinsLightly-heavy : OthersAreHeavy edges tree → JoinsLightly edges tree
  JoinsLightly-heavy heavy edge in' outside =
      let (path, is) : (path : List ℕ) × IsPath tree edge.a path edge.b = path_between edge in' in (
        path,
        Walk-among tree (no_heavier edge.weight tree) edge.a edge.b path is.walk
            (λ along along_in on. Contains-filter (λ (along : Edge). nat_le along.weight edge.weight)
            tree along along_in
            (le-leb along.weight edge.weight (heavy edge along path in' outside is along_in on))),
      )

  -- an edge of the tree that another spanning tree lacks
  module _ (light : JoinsLightly edges tree) (other : List Edge)
      (also : IsSpanningTree edges other nodes) (edge : Edge) (in' : Contains tree edge)
      (lacks : Contains other edge → ⊥) where
    -- it can take the place of an edge of the other that is no lighter and that the tree lacks
    record IsExchanged : Type 0 where
      old : Edge
      at : Contains other old
      apart : Contains tree old → ⊥
      heavy : edge.weight ≤ old.weight
      again : IsSpanningTree edges (set other at.0 edge) nodes

    exchanged : IsExchanged
    exchanged =
        let ends = graph.ends edge (spans.among edge in') in
        let (walked, walk) : (walked : List ℕ) × Walk other edge.a walked edge.b =
        also.joined edge.a edge.b ends.0 ends.1 in
        let (path, is) : (path : List ℕ) × IsPath other edge.a path edge.b =
        path_of other edge.a edge.b walked walk in
        let (old, at, on, differ) : (old : Edge) × Contains other old
        × IsAlong old edge.a path
        × (class_of left old.a ≢ class_of left old.b) =
        crossing (class_of left) cases_eq other edge.a edge.b path is.walk
        (class-removed edges tree nodes spans graph.distinct edge in') in
        record {
          old = old;
          at = at;
          apart = apart old at differ;
          heavy = heavy old at differ;
          again = IsSpanningTree-set edges other nodes also edge old path
              (spans.among edge in') lacks is at on;
        }
      where
        left : List Edge
        left = remove tree in'.0

        apart : (old : Edge) → Contains other old → class_of left old.a ≢ class_of left old.b
            → Contains tree old → ⊥
        apart old at differ old_in = elim (Contains-remove tree edge in' old old_in) [
          | inl same ↦ lacks (subst (Contains other) same at)
          | inr kept ↦ differ (class-joined left old.a old.b
              (old.b ∷ [], ((old, kept, inl (refl, refl)), refl)))
        ]

        heavy : (old : Edge) → Contains other old → class_of left old.a ≢ class_of left old.b
            → edge.weight ≤ old.weight
        heavy old at differ = elim (cases_lt old.weight edge.weight) [
          | inr fine ↦ fine
          | inl less ↦
              let (walked, walk) : AreJoined (no_heavier old.weight tree) old.a old.b =
              light old (also.among old at) (apart old at differ) in
              absurd (differ (class-joined left old.a old.b (
                walked,
                Walk-among (no_heavier old.weight tree) left old.a old.b walked walk
                    (λ along along_in on. kept old less along along_in),
              )))
        ]
          where
            kept : (old : Edge) → old.weight < edge.weight → (along : Edge)
                → Contains (no_heavier old.weight tree) along → Contains left along
            kept old less along along_in =
                let found : Contains tree along × (nat_le along.weight old.weight ≡ true) =
                Contains-from_filter (λ (along : Edge). nat_le along.weight old.weight) tree along
                along_in in
                elim (Contains-remove tree edge in' along found.0) [
                  | inl same ↦
                      let most = leb-true along.weight old.weight found.1 in
                      let is = ap (λ (edge : Edge). edge.weight) same in
                      absurd (omega arith)
                  | inr stays ↦ stays
                ]

  -- so the other becomes the tree edge by edge, and grows no heavier
  module _ (light : JoinsLightly edges tree) where
    lightest_from : (rest other : List Edge) → IsSpanningTree edges other nodes
        → ((edge : Edge) → Contains rest edge → Contains tree edge)
        → ((edge : Edge) → Contains tree edge → Contains rest edge ⊎ Contains other edge)
        → weight_of tree ≤ weight_of other
    lightest_from [] other also known has =
        weight_of-part tree other spans.distinct (λ edge in'. elim (has edge in') [
          | inl none ↦ absurd (omega (arith, none.1))
          | inr there ↦ there
        ])
    lightest_from (edge ∷ rest) other also known has =
        elim (decide_Contains cases_Edge other edge) [
          | inl there ↦ lightest_from rest other also
              (λ next in'. known next (Contains-later edge rest next in'))
              (λ next in'. elim (has next in') [
                | inl left ↦ elim (Contains-cons_cases edge rest next left) [
                  | inl same ↦ inr (subst (Contains other) same there)
                  | inr later ↦ inl later
                ]
                | inr there ↦ inr there
              ])
          | inr lacks ↦ by lacks (exchanged light other also edge
              (known edge (Contains-first edge rest)) lacks)
              (lightest_from rest)
        ]
      where
        by : (lacks : Contains other edge → ⊥)
            → IsExchanged light other also edge (known edge (Contains-first edge rest)) lacks
            → ((other : List Edge) → IsSpanningTree edges other nodes
            → ((edge : Edge) → Contains rest edge → Contains tree edge)
            → ((edge : Edge) → Contains tree edge → Contains rest edge ⊎ Contains other edge)
            → weight_of tree ≤ weight_of other)
            → weight_of tree ≤ weight_of other
        by lacks change later =
            let weigh : Edge → ℕ = λ edge. edge.weight in
            let new : List Edge = set other change.at.0 edge in
            let least = later new change.again
            (λ next in'. known next (Contains-later edge rest next in'))
            (λ next in'. elim (has next in') [
              | inl left ↦ elim (Contains-cons_cases edge rest next left) [
                | inl same ↦ inr (subst (Contains new) same
                    (Contains-set_new other change.old change.at edge))
                | inr later ↦ inl later
              ]
              | inr there ↦ elim (Contains-set_kept other change.old change.at edge next there) [
                | inl same ↦ absurd (change.apart (subst (Contains tree) same in'))
                | inr kept ↦ inr kept
              ]
            ]) in
            let stands = ap weigh change.at.2 in
            let heavy = change.heavy in
            omega (
              arith,
              least,
              sum_by-set weigh other change.at.0 edge change.old change.at.1,
            )

    pub IsLightest-lightly : IsLightest edges tree nodes
    IsLightest-lightly other also =
        lightest_from tree other also (λ edge in'. in') (λ edge in'. inl in')

  -- the rule in its usual form
  pub IsLightest-heavy : OthersAreHeavy edges tree → IsLightest edges tree nodes
  IsLightest-heavy heavy = IsLightest-lightly (JoinsLightly-heavy heavy)
