-- The ways to a centroid: one edge more in front of a way is a way, where what is behind that edge
-- has the centroid.
use Rattle.std.proofs.Common.{◌≡◌, ◌≢◌, ◌∙◌, ℕ, ◌+◌, ◌<◌, ◌≤◌, ◌==◌, max, inl, inr, false, List, [], ◌∷◌, length, Contains, Option, refl, sym, ap, arith}
use Rattle.std.proofs.lemmas.Bool.{eq-eqb, ne_eqb, true≢false}
use Rattle.pls_configuration.specs.declared.row.NodeRow.{NodeRow}
use Rattle.pls_configuration.specs.Configuration.{IsNetwork, ids_of}
use Rattle.pls_configuration.specs.Walk.{Edge, Adjacent, AreJoined}
use Rattle.pls_graph.proofs.Joined.{Adjacent-turned, AreJoined-turned}
use Rattle.pls_facts.specs.Parents.{ChainMeets}
use Rattle.pls_facts.specs.Path.{IsPath}
use Rattle.pls_facts.specs.SpanningTree.{IsTree, pointed_edges}
use Rattle.pls_facts.specs.Weight.{edge_weight}
use Rattle.pls_facts.proofs.Distinct.{AreDistinct-cons}
use Rattle.pls_facts.proofs.Paths.{IsPath-itself}
use Rattle.pls_search.specs.SubtreeSizes.{HasParentAt}
use Rattle.pls_centroid.specs.Centroid.{edges_without}
use Rattle.pls_centroid.specs.inner.Cut.{IsCut, id_at}
use Rattle.pls_centroid.specs.inner.Reaching.{IsWay}
use Rattle.pls_centroid.proofs.Below.{chain_joins, joined_chain, one_parent, one_place_of}
use Rattle.pls_centroid.proofs.Central.{on_a_side}
use Rattle.pls_centroid.proofs.Sides.{stays_left}
use Rattle.pls_centroid.proofs.Mates.{path_inside}
use Rattle.pls_centroid.proofs.Pieces.{left-among}

-- the way of the centroid itself
pub way_itself : (rows : List NodeRow) (u : ℕ) → IsWay rows u u 0 0
way_itself rows u = record {
  path = [];
  leads = IsPath-itself (pointed_edges rows) u u refl;
  long = refl;
  heavy = refl;
}

module _ (rows : List NodeRow) (net : IsNetwork rows) (is_tree : IsTree rows) (edges : List Edge)
    (among : (edge : Edge) → Contains edges edge → Contains (pointed_edges rows) edge) where
  abbrev without : ℕ → List Edge
  without u = edges_without (λ w. w == u) edges

  -- one edge more, away from the centroid
  pub way_more : (u x centroid hops greatest : ℕ) → Adjacent edges u x → u ≢ x
      → AreJoined (without u) x centroid → IsWay rows x centroid hops greatest
      → IsWay rows u centroid (hops + 1) (max greatest (edge_weight rows u x))
  way_more u x centroid hops greatest (edge, in', joins) apart joined way =
      let inside : IsPath (without u) x way.path centroid =
      path_inside rows net is_tree (without u)
      (λ edge in'. among edge (left-among (λ w. w == u) edges edge in')) x centroid way.path joined
      way.leads in
      let long = way.long in
      let heavy = way.heavy in
      record {
        path = x ∷ way.path;
        leads = record {
          walk = ((edge, among edge in', joins), way.leads.walk);
          distinct = AreDistinct-cons u (x ∷ way.path) (λ again. true≢false
              (sym (eq-eqb u u refl) ∙ stays_left (λ w. w == u) edges x centroid way.path
              inside.walk (ne_eqb x u (λ same. apart (sym same))) u again)) way.leads.distinct;
        };
        long = omega (arith, long);
        heavy = omega (arith, heavy);
      }

  module _ (known : (u v : ℕ) → Adjacent edges u v → Contains (ids_of rows) v)
      (parents : List (Option ℕ)) (cut : IsCut rows edges parents) where
    abbrev id : ℕ → ℕ
    id place = id_at rows place

    abbrev Up : ℕ → ℕ → Type 0
    Up = HasParentAt parents

    -- a place and its parent are two nodes
    parent_differs : (place parent : ℕ) → place < length rows → Up place parent
        → id place ≢ id parent
    parent_differs place parent within up same =
        let step = cut.to place parent up in
        let one : place ≡ parent = one_place_of rows net place parent within step.0 same in
        let e = ap cut.depth one in
        let down = step.2 in
        omega (arith, e, down)

    -- no place from a place down is its parent
    parent_stays : (place parent : ℕ) → Up place parent → (p : ℕ)
        → cut.depth place ≤ cut.depth p → p < length rows → (id p == id parent) ≡ false
    parent_stays place parent up p deep in' =
        let step = cut.to place parent up in
        ne_eqb (id p) (id parent) (λ same.
        let one : p ≡ parent = one_place_of rows net p parent in' step.0 same in
        let e = ap cut.depth one in
        let down = step.2 in
        omega (arith, deep, e, down))

    module _ (centroid : ℕ) (inside : centroid < length rows) where
      -- the way of the parent of a place that the centroid's chain of parents meets
      pub way_up : (place parent hops greatest : ℕ) → place < length rows → Up place parent
          → ChainMeets Up centroid place → IsWay rows (id place) (id centroid) hops greatest
          → IsWay rows (id parent) (id centroid) (hops + 1)
          (max greatest (edge_weight rows (id parent) (id place)))
      way_up place parent hops greatest within up meets =
          way_more (id parent) (id place) (id centroid) hops greatest
          (Adjacent-turned edges (id place) (id parent) (cut.to place parent up).1)
          (λ same. parent_differs place parent within up (sym same))
          (AreJoined-turned (without (id parent)) (id centroid) (id place)
          (chain_joins rows net edges known parents cut (λ w. w == id parent) place
          (parent_stays place parent up) centroid meets.0 inside meets.1))

      -- the way of a place that it does not meet, by way of its parent
      pub way_down : (place parent hops greatest : ℕ) → place < length rows → Up place parent
          → (ChainMeets Up centroid place → ⊥) → AreJoined edges (id place) (id centroid)
          → IsWay rows (id parent) (id centroid) hops greatest
          → IsWay rows (id place) (id centroid) (hops + 1)
          (max greatest (edge_weight rows (id place) (id parent)))
      way_down place parent hops greatest within up off joined way =
          elim (on_a_side rows net is_tree edges among (id place) (id parent) (id centroid)
          (cut.to place parent up).1 joined) [
            | inl there ↦ way_more (id place) (id parent) (id centroid) hops greatest
                (cut.to place parent up).1 (parent_differs place parent within up) there way
            | inr here ↦ absurd (off (joined_chain rows net edges known parents cut
                (λ w. w == id parent) place (parent_stays place parent up) within
                (λ also there. eq-eqb (id also) (id parent)
                (ap id (one_parent rows net edges known parents cut place also parent there up)))
                centroid inside here))
          ]
