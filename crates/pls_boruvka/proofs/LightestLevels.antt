-- Where all edges that Borůvka's levels choose are edges of a spanning tree, none is lighter.
use Rattle.std.proofs.Common.{◌≡◌, ℕ, ◌==◌, ◌⊎◌, inl, inr, Bool, List, [], ◌∷◌, ◌++◌, subst, arith, Contains}
use Rattle.std.proofs.lemmas.List.Elements.{Contains-append_cases}
use Rattle.pls_configuration.specs.Walk.{Edge}
use Rattle.pls_graph.proofs.Members.{Contains-first, Contains-from_map, Contains-later}
use Rattle.pls_facts.specs.SpanningTree.{IsSpanningTree}
use Rattle.pls_facts.specs.Lightest.{IsFirstLeaving, IsLightest}
use Rattle.pls_facts.specs.inner.Graphs.{IsGraph}
use Rattle.pls_facts.specs.EdgeOrder.{ComesBefore}
use Rattle.pls_boruvka.specs.declared.level.Level.{Level}
use Rattle.pls_boruvka.specs.Boruvka.{AreBoruvkaLevelsFrom, chosen_edge, chosen_edges}
use Rattle.pls_facts.proofs.Chosen.{Contains-joining}
use Rattle.pls_facts.proofs.CutRule.{IsLightest-first}
use Rattle.pls_facts.proofs.Decided.{cases_Edge}
use Rattle.pls_facts.proofs.Distinct.{decide_Contains}
use Rattle.pls_facts.proofs.EdgeKeys.{ComesBefore-order}

module _ (edges tree : List Edge) (nodes : List ℕ) (graph : IsGraph edges nodes)
    (spans : IsSpanningTree edges tree nodes) (depth : ℕ → ℕ) where
  abbrev ChosenIn : List (ℕ → Level) → Type 0
  ChosenIn levels = (level : ℕ → Level) (u : ℕ) → Contains levels level → Contains nodes u
      → Contains tree (chosen_edge (level u))

  -- each tree edge that is not there at first is the first that leaves some fragment
  first_from : (joined : List Edge) (levels : List (ℕ → Level))
      → AreBoruvkaLevelsFrom edges (ComesBefore tree) nodes depth joined levels → ChosenIn levels
      → ((edge : Edge) → Contains joined edge → Contains tree edge) → (edge : Edge)
      → Contains tree edge → (Contains joined edge → ⊥)
      → (inside : ℕ → Bool) × IsFirstLeaving edges (ComesBefore tree) inside edge
  first_from joined [] are chosen below edge in' out =
      absurd (out (Contains-joining edges tree nodes spans graph joined below are edge in'))
  first_from joined (level ∷ levels) are chosen below edge in' out =
      by (decide_Contains cases_Edge (chosen_edges level nodes) edge)
      (first_from (joined ++ chosen_edges level nodes) levels are.1
      (λ other u other_in. chosen other u (Contains-later level levels other other_in))
      (λ other other_in. elim (Contains-append_cases joined (chosen_edges level nodes)
      other other_in) [
        | inl before ↦ below other before
        | inr now ↦
            let (u, u_in, chose) : (u : ℕ) × Contains nodes u × ((chosen_edge (level u)) ≡ other) =
            Contains-from_map (λ u. chosen_edge (level u)) nodes other now in
            subst (Contains tree) chose (chosen level u (Contains-first level levels) u_in)
      ]) edge in')
    where
      by : Contains (chosen_edges level nodes) edge
          ⊎ (Contains (chosen_edges level nodes) edge → ⊥)
          → ((Contains (joined ++ chosen_edges level nodes) edge → ⊥)
          → (inside : ℕ → Bool) × IsFirstLeaving edges (ComesBefore tree) inside edge)
          → (inside : ℕ → Bool) × IsFirstLeaving edges (ComesBefore tree) inside edge
      by (inl now) later =
          let (u, u_in, chose) : (u : ℕ) × Contains nodes u × ((chosen_edge (level u)) ≡ edge) =
          Contains-from_map (λ u. chosen_edge (level u)) nodes edge now in (
            λ v. (level v).fragment == (level u).fragment,
            subst (IsFirstLeaving edges (ComesBefore tree)
                (λ v. (level v).fragment == (level u).fragment)) chose (are.0.first u u_in),
          )
      by (inr not_now) later = later (λ there.
          elim (Contains-append_cases joined (chosen_edges level nodes) edge there) [
            | inl before ↦ out before
            | inr now ↦ not_now now
          ])

  -- no spanning tree is lighter
  pub IsLightest-levels : (levels : List (ℕ → Level))
      → AreBoruvkaLevelsFrom edges (ComesBefore tree) nodes depth [] levels → ChosenIn levels
      → IsLightest edges tree nodes
  IsLightest-levels levels are chosen =
      IsLightest-first (ComesBefore tree) edges (ComesBefore-order tree edges) tree nodes graph spans
      (λ edge in'. first_from [] levels are chosen (λ other none. absurd (omega (arith, none.1)))
      edge in' (λ none. omega (arith, none.1)))
