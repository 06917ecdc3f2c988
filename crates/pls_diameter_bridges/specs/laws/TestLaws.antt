-- The tests give true exactly where the properties hold.
use Rattle.std.proofs.Common.{◌≡◌, ◌∙◌, ℕ, zero, suc, ◌≤◌, ◌==◌, ◌&&◌, ◌||◌, ◌↔◌, inl, inr, Bool, true, List, [], ◌∷◌, length, Contains, refl, ap, arith}
use Rattle.std.specs.List.{list_all}
use Rattle.std.proofs.lemmas.Bool.{and_from, and_parts, eq-eqb, eqb-true, or_cases, or_left, or_right}
use Rattle.pls_configuration.specs.declared.row.NodeRow.{NodeRow}
use Rattle.pls_configuration.specs.Configuration.{ids_of}
use Rattle.pls_configuration.specs.Walk.{Adjacent, Edge, JoinAll, Walk, edges_of}
use Rattle.pls_facts.specs.Classes.{class_of, joins_all}
use Rattle.pls_facts.proofs.Classes.{class-joined, joined-class}
use Rattle.pls_facts.proofs.Lists.{all_pass, any_passes, each_passes, passes_any}
use Rattle.pls_diameter_bridges.specs.Diameter.{AreWithin, HasDiameterAtMost}
use Rattle.pls_diameter_bridges.specs.Bridgeless.{IsBridgeless, without}
use Rattle.pls_diameter_bridges.specs.Tests.{any_two, bridgeless_test, diameter_test, leads_to, walks_within}

-- what all pass, any two pass, and the other way round
module _ (test : ℕ → ℕ → Bool) (nodes : List ℕ) where
  two_pass : any_two test nodes ≡ true → (u v : ℕ) → Contains nodes u → Contains nodes v
      → test u v ≡ true
  two_pass all u v in_u in_v =
      each_passes (test u) nodes (each_passes (λ u. list_all (test u) nodes) nodes all u in_u) v in_v

  any_two_pass : ((u v : ℕ) → Contains nodes u → Contains nodes v → test u v ≡ true)
      → any_two test nodes ≡ true
  any_two_pass each = all_pass (λ u. list_all (test u) nodes) nodes (λ u in_u.
      all_pass (test u) nodes (λ v in_v. each u v in_u in_v))

module _ (edges : List Edge) (v : ℕ) where
  -- the test of walks finds a walk
  walk_found : (most u : ℕ) → walks_within edges most v u ≡ true → AreWithin edges most u v
  unfolding walks_within
  walk_found zero u found = ([], eqb-true u v found, omega arith)
  walk_found (suc most) u found =
      elim (or_cases (u == v) (leads_to edges (walks_within edges most v) u) found) [
        | inl same ↦ ([], eqb-true u v same, omega arith)
        | inr leads ↦ onward (passes_any
            (λ edge. (edge.a == u && walks_within edges most v edge.b)
            || (edge.b == u && walks_within edges most v edge.a)) edges leads) (walk_found most)
      ]
    where
      onward : (edge : Edge) × Contains edges edge
          × (((edge.a == u && walks_within edges most v edge.b)
          || (edge.b == u && walks_within edges most v edge.a)) ≡ true)
          → ((w : ℕ) → walks_within edges most v w ≡ true → AreWithin edges most w v)
          → AreWithin edges (suc most) u v
      onward (edge, in', passes) rest =
          elim (or_cases (edge.a == u && walks_within edges most v edge.b)
          (edge.b == u && walks_within edges most v edge.a) passes) [
            | inl there ↦
                let both = and_parts (edge.a == u) (walks_within edges most v edge.b) there in
                let more = rest edge.b both.1 in (
                  edge.b ∷ more.0,
                  ((edge, in', inl (eqb-true edge.a u both.0, refl)), more.1),
                  omega (arith, more.2),
                )
            | inr back ↦
                let both = and_parts (edge.b == u) (walks_within edges most v edge.a) back in
                let more = rest edge.a both.1 in (
                  edge.a ∷ more.0,
                  ((edge, in', inr (refl, eqb-true edge.b u both.0)), more.1),
                  omega (arith, more.2),
                )
          ]

  -- and every walk is found
  finds_walk : (most u : ℕ) (nodes : List ℕ) → Walk edges u nodes v → length nodes ≤ most
      → walks_within edges most v u ≡ true
  unfolding walks_within
  finds_walk zero u [] walk short = eq-eqb u v walk
  finds_walk zero u (next ∷ nodes) walk short = absurd (omega (arith, short))
  finds_walk (suc most) u [] walk short =
      or_left (u == v) (leads_to edges (walks_within edges most v) u) (eq-eqb u v walk)
  finds_walk (suc most) u (next ∷ nodes) walk short =
      or_right (u == v) (leads_to edges (walks_within edges most v) u)
      (leads walk.0 (finds_walk most next nodes walk.1 (omega (arith, short))))
    where
      leads : Adjacent edges u next → walks_within edges most v next ≡ true
          → leads_to edges (walks_within edges most v) u ≡ true
      leads (edge, in', joins) more =
          any_passes (λ edge. (edge.a == u && walks_within edges most v edge.b)
          || (edge.b == u && walks_within edges most v edge.a)) edges edge in'
          (elim joins [
            | inl ends ↦ or_left (edge.a == u && walks_within edges most v edge.b)
                (edge.b == u && walks_within edges most v edge.a)
                (and_from (edge.a == u) (walks_within edges most v edge.b)
                (eq-eqb edge.a u ends.0)
                (ap (walks_within edges most v) ends.1 ∙ more))
            | inr ends ↦ or_right (edge.a == u && walks_within edges most v edge.b)
                (edge.b == u && walks_within edges most v edge.a)
                (and_from (edge.b == u) (walks_within edges most v edge.a)
                (eq-eqb edge.b u ends.1)
                (ap (walks_within edges most v) ends.0 ∙ more))
          ])

-- the test of the diameter is right
pub diameter_tested : (most : ℕ) (rows : List NodeRow)
    → (diameter_test most rows ≡ true) ↔ HasDiameterAtMost most rows
diameter_tested most rows = (
  λ passes u v in_u in_v. walk_found (edges_of rows) v most u
      (two_pass (λ u v. walks_within (edges_of rows) most v u) (ids_of rows) passes u v in_u in_v),
  λ holds. any_two_pass (λ u v. walks_within (edges_of rows) most v u) (ids_of rows)
      (λ u v in_u in_v. let near = holds u v in_u in_v in
      finds_walk (edges_of rows) v most u near.0 near.1 near.2),
)

-- the test of what edges join is right
join_tested : (edges : List Edge) (nodes : List ℕ)
    → (joins_all edges nodes ≡ true) ↔ JoinAll edges nodes
join_tested edges nodes = (
  λ passes u v in_u in_v. joined-class edges u v (eqb-true (class_of edges u) (class_of edges v)
      (two_pass (λ u v. class_of edges u == class_of edges v) nodes passes u v in_u in_v)),
  λ joined. any_two_pass (λ u v. class_of edges u == class_of edges v) nodes (λ u v in_u in_v.
      eq-eqb (class_of edges u) (class_of edges v)
      (class-joined edges u v (joined u v in_u in_v))),
)

-- the test for bridges is right
pub bridgeless_tested : (rows : List NodeRow)
    → (bridgeless_test rows ≡ true) ↔ IsBridgeless rows
bridgeless_tested rows = (
  λ passes edge in'. (join_tested (without edge (edges_of rows)) (ids_of rows)).0
      (each_passes (λ edge. joins_all (without edge (edges_of rows)) (ids_of rows)) (edges_of rows)
      passes edge in'),
  λ holds. all_pass (λ edge. joins_all (without edge (edges_of rows)) (ids_of rows)) (edges_of rows)
      (λ edge in'.
      (join_tested (without edge (edges_of rows)) (ids_of rows)).1 (holds edge in')),
)
