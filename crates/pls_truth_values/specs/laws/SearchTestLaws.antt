-- The tests that try all lists give true exactly where the properties hold.
use Rattle.std.proofs.Common.{◌≡◌, ◌≢◌, ◌∙◌, ◌+◌, ◌≤◌, ◌==◌, ◌↔◌, ℕ, inl, inr, Bool, true, false, not, cond, List, [], ◌∷◌, map, length, refl, sym, ap, subst, arith, Contains}
use Rattle.std.specs.Prelude.{nat_le}
use Rattle.std.specs.List.{count_by, list_all, list_any}
use Rattle.std.proofs.lemmas.Bool.{both_ways, eq-eqb, eqb-true, false_from_ne_true, false≢true, not-true, not_from_false, or_from, or_parts, true≢false}
use Rattle.std.proofs.lemmas.List.{length-map}
use Rattle.pls_configuration.specs.declared.row.NodeRow.{NodeRow}
use Rattle.pls_configuration.specs.Configuration.{IsNetwork, has_repeat, ids_of}
use Rattle.pls_configuration.specs.Walk.{Adjacent, Edge, JoinAll, Joins, Walk, edges_of}
use Rattle.pls_graph.proofs.Members.{Contains-cons_cases, Contains-first, Contains-later}
use Rattle.pls_facts.specs.Bipartite.{Colours, IsBipartite, differ}
use Rattle.pls_facts.specs.Cycle.{IsAcyclic, IsCycle}
use Rattle.pls_facts.specs.SpanningTree.{AreDistinct, IsSpanningTree, is_root, pointed_edges}
use Rattle.pls_facts.specs.Lightest.{weight_of}
use Rattle.pls_facts.specs.MinimumSpanningTree.{IsMinimumSpanningTree}
use Rattle.pls_facts.proofs.Distinct.{AreDistinct-cons, AreDistinct-first, AreDistinct-nil, AreDistinct-rest}
use Rattle.pls_facts.proofs.Fewer.{length-part}
use Rattle.pls_facts.proofs.Lists.{any_passes, passes_any}
use Rattle.pls_facts.proofs.Neighbours.{adjacent_known}
use Rattle.pls_facts.proofs.PointedEdges.{pointed_among}
use Rattle.pls_facts.proofs.PortEdges.{IsGraph-network}
use Rattle.pls_facts.proofs.Trees.{length-pointed_edges}
use Rattle.pls_truth_values.specs.SearchTests.{acyclic_test, all_lists, bipartite_test, colour_of, has_ends, is_colouring, is_cycle, is_walk, lists_up_to, mst_test, spanning_trees}
use Rattle.pls_truth_values.specs.laws.AllLists.{AreAmong, Contains-all_lists, Contains-lists_up_to}
use Rattle.pls_facts.proofs.Classes.{joins_all-JoinAll}
use Rattle.pls_truth_values.specs.laws.Joining.{few_differ, spanning_listed}
use Rattle.pls_truth_values.specs.laws.Tested.{Tells, all_tells, any_tells, both_tells, either_tells, most_tells, not_tells, same_tells}

-- two truth values differ
differ_tells : (one other : Bool) → Tells (differ one other) (one ≢ other)
differ_tells true true = (λ no. absurd (false≢true no), λ apart. absurd (apart refl))
differ_tells true false = (λ yes. true≢false, λ apart. refl)
differ_tells false true = (λ yes. false≢true, λ apart. refl)
differ_tells false false = (λ no. absurd (false≢true no), λ apart. absurd (apart refl))

-- what is looked up of colours that a map gives is what the map gives
colour_of-map : (colour : ℕ → Bool) (nodes : List ℕ) (node : ℕ) → Contains nodes node
    → colour_of nodes (map colour nodes) node ≡ colour node
colour_of-map colour [] node in' = absurd (omega (arith, in'.1))
colour_of-map colour (first ∷ nodes) node in' =
    by (node == first) refl (colour_of-map colour nodes node)
  where
    by : (b : Bool) → (node == first) ≡ b
        → (Contains nodes node → colour_of nodes (map colour nodes) node ≡ colour node)
        → cond b (colour first) (colour_of nodes (map colour nodes) node) ≡ colour node
    by true same rest = ap colour (sym (eqb-true node first same))
    by false apart rest = elim (Contains-cons_cases first nodes node in') [
      | inl is ↦ absurd (both_ways (node == first) apart (eq-eqb node first (sym is)))
      | inr later ↦ rest later
    ]

module _ (rows : List NodeRow) (net : IsNetwork rows) where
  abbrev both_colours : List Bool
  both_colours = false ∷ true ∷ []

  -- the test finds colours out of all choices of them
  colouring_tells : Tells (bipartite_test rows)
      ((colours : List Bool) × Contains (all_lists both_colours (length rows)) colours
      × Colours (colour_of (ids_of rows) colours) (edges_of rows))
  colouring_tells = any_tells (is_colouring rows)
      (λ colours. Colours (colour_of (ids_of rows) colours) (edges_of rows))
      (all_lists both_colours (length rows))
      (λ colours in'. let colour = colour_of (ids_of rows) colours in
      all_tells (λ edge. differ (colour edge.a) (colour edge.b))
      (λ edge. colour edge.a ≢ colour edge.b) (edges_of rows)
      (λ edge edge_in. differ_tells (colour edge.a) (colour edge.b)))

  -- the test of colourings is right
  pub bipartite_tested : (bipartite_test rows ≡ true) ↔ IsBipartite rows
  bipartite_tested = (
    λ passes. let found = colouring_tells.0 passes in
        (colour_of (ids_of rows) found.0, found.2),
    λ holds. colouring_tells.1 (found holds.0 holds.1),
  )
    where
      either : (colour : Bool) → Contains both_colours colour
      either false = Contains-first false (true ∷ [])
      either true = Contains-later false (true ∷ []) true (Contains-first true [])

      found : (colour : ℕ → Bool) → Colours colour (edges_of rows)
          → (colours : List Bool) × Contains (all_lists both_colours (length rows)) colours
          × Colours (colour_of (ids_of rows) colours) (edges_of rows)
      found colour differs =
          let colours : List Bool = map colour (ids_of rows) in
          let many : length colours ≡ length rows = length-map (ids_of rows) colour
          ∙ length-map rows (λ (row : NodeRow). row.id) in (
            colours,
            subst (λ (count : ℕ). Contains (all_lists both_colours count) colours) many
                (Contains-all_lists both_colours colours (λ x in'. either x)),
            λ edge in' same. let ends = (IsGraph-network rows net).ends edge in' in
                differs edge in'
                (sym (colour_of-map colour (ids_of rows) edge.a ends.0) ∙ same
                ∙ colour_of-map colour (ids_of rows) edge.b ends.1),
          )

-- the number stands in the list
abbrev is_listed : ℕ → List ℕ → Bool
is_listed number nodes = list_any (λ node. number == node) nodes

listed_tells : (number : ℕ) (nodes : List ℕ) → Tells (is_listed number nodes) (Contains nodes number)
listed_tells number nodes = (
  λ some. let found = passes_any (λ node. number == node) nodes some in
      subst (Contains nodes) (sym (eqb-true number found.0 found.2)) found.1,
  λ in'. any_passes (λ node. number == node) nodes number in' (eq-eqb number number refl),
)

-- no number stands twice in a list of distinct numbers
distinct_tells : (nodes : List ℕ) → Tells (not (has_repeat nodes)) (AreDistinct nodes)
distinct_tells [] = (λ none. AreDistinct-nil, λ distinct. refl)
distinct_tells (first ∷ nodes) = (
  λ passes.
      let parts = or_parts (is_listed first nodes) (has_repeat nodes)
      (not-true (has_repeat (first ∷ nodes)) passes) in
      AreDistinct-cons first nodes
      (λ in'. both_ways (is_listed first nodes) parts.0 ((listed_tells first nodes).1 in'))
      ((distinct_tells nodes).0 (not_from_false (has_repeat nodes) parts.1)),
  λ distinct. not_from_false (has_repeat (first ∷ nodes))
      (or_from (is_listed first nodes) (has_repeat nodes)
      (false_from_ne_true (is_listed first nodes)
      (λ some. AreDistinct-first first nodes distinct ((listed_tells first nodes).0 some)))
      (not-true (has_repeat nodes)
      ((distinct_tells nodes).1 (AreDistinct-rest first nodes distinct)))),
)

module _ (edges : List Edge) where
  -- some edge has the two ends
  adjacent_tells : (u v : ℕ) → Tells (list_any (λ edge. has_ends edge u v) edges) (Adjacent edges u v)
  adjacent_tells u v = any_tells (λ edge. has_ends edge u v) (λ edge. Joins edge u v) edges
      (λ edge in'. either_tells (both_tells (same_tells edge.a u) (same_tells edge.b v))
      (both_tells (same_tells edge.a v) (same_tells edge.b u)))

  -- the list is a walk
  walk_tells : (u : ℕ) (nodes : List ℕ) (v : ℕ)
      → Tells (is_walk edges u nodes v) (Walk edges u nodes v)
  walk_tells u [] v = same_tells u v
  walk_tells u (next ∷ nodes) v = both_tells (adjacent_tells u next) (walk_tells next nodes v)

  -- the list is a cycle
  cycle_tells : (last : ℕ) (nodes : List ℕ)
      → Tells (is_cycle edges last nodes) (IsCycle edges last nodes)
  cycle_tells last nodes = (
    λ passes. let is = parts.0 passes in
        record { long = is.0.0; distinct = is.0.1; closed = is.1 },
    λ cycle. parts.1 ((cycle.long, cycle.distinct), cycle.closed),
  )
    where
      parts : Tells (is_cycle edges last nodes)
          ((3 ≤ length nodes × AreDistinct nodes) × Walk edges last nodes last)
      parts = both_tells (both_tells (most_tells 3 (length nodes)) (distinct_tells nodes))
          (walk_tells last nodes last)

module _ (rows : List NodeRow) (net : IsNetwork rows) where
  -- a walk leads through nodes of the network
  walk_known : (u : ℕ) (nodes : List ℕ) (v : ℕ) → Walk (edges_of rows) u nodes v
      → AreAmong (ids_of rows) nodes
  walk_known u [] v walk node in' = absurd (omega (arith, in'.1))
  walk_known u (next ∷ nodes) v walk node in' = elim (Contains-cons_cases next nodes node in') [
    | inl is ↦ subst (Contains (ids_of rows)) is (adjacent_known rows net u next walk.0)
    | inr later ↦ walk_known next nodes v walk.1 node later
  ]

  -- the end of a walk is its first node or one of the others
  walk_end : (u : ℕ) (nodes : List ℕ) (v : ℕ) → Walk (edges_of rows) u nodes v
      → Contains (u ∷ nodes) v
  walk_end u [] v same = subst (Contains (u ∷ [])) same (Contains-first u [])
  walk_end u (next ∷ nodes) v walk =
      Contains-later u (next ∷ nodes) v (walk_end next nodes v walk.1)

  -- so a cycle is among the lists that are tried, and it ends at a node
  cycle_known : (last : ℕ) (nodes : List ℕ) → IsCycle (edges_of rows) last nodes
      → Contains (lists_up_to (ids_of rows) (length rows)) nodes × Contains (ids_of rows) last
  cycle_known last nodes cycle =
      let among = walk_known last nodes last cycle.closed in (
        Contains-lists_up_to (ids_of rows) (length rows) nodes among
            (omega (
              arith,
              length-part nodes (ids_of rows) cycle.distinct among,
              length-map rows (λ (row : NodeRow). row.id),
            )),
        among last (ends nodes cycle.long cycle.closed),
      )
    where
      ends : (nodes : List ℕ) → 3 ≤ length nodes → Walk (edges_of rows) last nodes last
          → Contains nodes last
      ends [] long walk = absurd (omega (arith, long))
      ends (next ∷ nodes) long walk = walk_end next nodes last walk.1

  -- the test of cycles is right
  pub acyclic_tested : (acyclic_test rows ≡ true) ↔ IsAcyclic rows
  acyclic_tested = (
    λ passes last nodes cycle. let known = cycle_known last nodes cycle in
        tried.0 passes nodes known.0 last known.1 cycle,
    λ none. tried.1 (λ nodes nodes_in last last_in. none last nodes),
  )
    where
      tried : Tells (acyclic_test rows)
          ((nodes : List ℕ) → Contains (lists_up_to (ids_of rows) (length rows)) nodes
          → (last : ℕ) → Contains (ids_of rows) last → IsCycle (edges_of rows) last nodes → ⊥)
      tried = all_tells
          (λ nodes. list_all (λ last. not (is_cycle (edges_of rows) last nodes)) (ids_of rows))
          (λ nodes. (last : ℕ) → Contains (ids_of rows) last
          → IsCycle (edges_of rows) last nodes → ⊥)
          (lists_up_to (ids_of rows) (length rows))
          (λ nodes in'. all_tells (λ last. not (is_cycle (edges_of rows) last nodes))
          (λ last. IsCycle (edges_of rows) last nodes → ⊥) (ids_of rows)
          (λ last last_in. not_tells (cycle_tells (edges_of rows) last nodes)))

module _ (rows : List NodeRow) (net : IsNetwork rows) where
  abbrev trees : List (List Edge)
  trees = spanning_trees (edges_of rows) (ids_of rows)

  -- the parts of the test
  mst_tells : Tells (mst_test rows)
      (((count_by is_root rows ≡ 1) × JoinAll (pointed_edges rows) (ids_of rows))
      × ((tree : List Edge) → Contains trees tree
      → weight_of (pointed_edges rows) ≤ weight_of tree))
  mst_tells = let pointed = weight_of (pointed_edges rows) in
      both_tells
      (both_tells (same_tells (count_by is_root rows) 1)
      (joins_all-JoinAll (pointed_edges rows) (ids_of rows)))
      (all_tells (λ tree. nat_le pointed (weight_of tree)) (λ tree. pointed ≤ weight_of tree) trees
      (λ tree in'. most_tells pointed (weight_of tree)))

  -- the test of spanning trees of least weight is right
  pub mst_tested : (mst_test rows ≡ true) ↔ IsMinimumSpanningTree rows
  mst_tested = (
    λ passes. let is = mst_tells.0 passes in record {
      tree = record { one_root = is.0.0; spanning = spans is.0.0 is.0.1 };
      lightest = λ other other_spans. is.1 other ((listed other).1 other_spans);
    },
    λ least. mst_tells.1 (
      (least.tree.one_root, least.tree.spanning.joined),
      λ tree in'. least.lightest tree ((listed tree).0 in'),
    ),
  )
    where
      distinct : AreDistinct (ids_of rows)
      distinct = (IsGraph-network rows net).distinct

      many : length (ids_of rows) ≡ length rows
      many = length-map rows (λ (row : NodeRow). row.id)

      listed : (tree : List Edge) → Contains trees tree
          ↔ IsSpanningTree (edges_of rows) tree (ids_of rows)
      listed = spanning_listed (edges_of rows) (ids_of rows) distinct
          (omega (arith, many, net.limits.some))

      spans : count_by is_root rows ≡ 1 → JoinAll (pointed_edges rows) (ids_of rows)
          → IsSpanningTree (edges_of rows) (pointed_edges rows) (ids_of rows)
      spans one joined =
          let few : length (pointed_edges rows) + 1 ≡ length (ids_of rows) =
          omega (arith, length-pointed_edges rows net, one, many) in
          record {
            among = pointed_among rows net;
            distinct = few_differ (pointed_edges rows) (ids_of rows) distinct few joined;
            few = few;
            joined = joined;
          }
