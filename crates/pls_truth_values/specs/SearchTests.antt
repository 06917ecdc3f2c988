-- Properties that speak of all lists of some kind, as functions from rows to a truth value that try
-- each of these lists.
use Rattle.std.specs.Prelude.{ℕ, zero, suc, ◌-◌, ◌==◌, nat_le, Bool, true, false, not, ◌&&◌, ◌||◌, List, [], ◌∷◌, ◌++◌, map, filter, flat_map, length, count_by, if◌then◌else◌}
use Rattle.std.specs.List.{list_all, list_any}
use Rattle.pls_configuration.specs.declared.row.NodeRow.{NodeRow}
use Rattle.pls_configuration.specs.Configuration.{has_repeat, ids_of}
use Rattle.pls_configuration.specs.Walk.{Edge, edges_of}
use Rattle.pls_facts.specs.SpanningTree.{is_root, pointed_edges}
use Rattle.pls_facts.specs.Lightest.{weight_of}
use Rattle.pls_facts.specs.Classes.{joins_all}
use Rattle.pls_facts.specs.Bipartite.{differ}

-- all lists of so many items out of these
abbrev pub all_lists : {X : Type 0} → List X → ℕ → List (List X)
all_lists items zero = [] ∷ []
all_lists items (suc count) =
    flat_map (λ first. map (λ others. first ∷ others) (all_lists items count)) items

-- all lists of at most so many items out of these
abbrev pub lists_up_to : {X : Type 0} → List X → ℕ → List (List X)
lists_up_to items zero = all_lists items 0
lists_up_to items (suc most) = lists_up_to items most ++ all_lists items (suc most)

-- the colour of a node, where colours stand in the order of the nodes
abbrev pub colour_of : List ℕ → List Bool → ℕ → Bool
colour_of [] colours node = false
colour_of (first ∷ nodes) [] node = false
colour_of (first ∷ nodes) (colour ∷ colours) node =
    if node == first then colour else colour_of nodes colours node

-- with these colours, one for each row, the ends of each edge differ
abbrev pub is_colouring : List NodeRow → List Bool → Bool
is_colouring rows colours =
    list_all (λ edge. differ (colour_of (ids_of rows) colours edge.a)
    (colour_of (ids_of rows) colours edge.b)) (edges_of rows)

-- some choice of one of two colours for each node is a colouring
abbrev pub bipartite_test : List NodeRow → Bool
bipartite_test rows = list_any (is_colouring rows) (all_lists (false ∷ true ∷ []) (length rows))

-- the edge has these two ends
abbrev pub has_ends : Edge → ℕ → ℕ → Bool
has_ends edge u v = (edge.a == u && edge.b == v) || (edge.a == v && edge.b == u)

-- from u along the listed nodes each two in turn are the ends of some edge, and the last is v
abbrev pub is_walk : List Edge → ℕ → List ℕ → ℕ → Bool
is_walk edges u [] v = u == v
is_walk edges u (next ∷ nodes) v =
    list_any (λ edge. has_ends edge u next) edges && is_walk edges next nodes v

-- a walk through three nodes or more, no two of them the same, from `last` back to itself
abbrev pub is_cycle : List Edge → ℕ → List ℕ → Bool
is_cycle edges last nodes =
    nat_le 3 (length nodes) && not (has_repeat nodes) && is_walk edges last nodes last

-- no list of at most as many nodes as there are is a cycle
abbrev pub acyclic_test : List NodeRow → Bool
acyclic_test rows =
    list_all (λ nodes. list_all (λ last. not (is_cycle (edges_of rows) last nodes)) (ids_of rows))
    (lists_up_to (ids_of rows) (length rows))

-- all lists of one edge fewer than there are nodes that join all nodes
abbrev pub spanning_trees : List Edge → List ℕ → List (List Edge)
spanning_trees edges nodes =
    filter (λ tree. joins_all tree nodes) (all_lists edges (length nodes - 1))

-- one node has no pointer, the edges that the others point along join all nodes, and no spanning
-- tree weighs less than these
abbrev pub mst_test : List NodeRow → Bool
mst_test rows =
    count_by is_root rows == 1
    && joins_all (pointed_edges rows) (ids_of rows)
    && list_all (λ tree. nat_le (weight_of (pointed_edges rows)) (weight_of tree))
    (spanning_trees (edges_of rows) (ids_of rows))
