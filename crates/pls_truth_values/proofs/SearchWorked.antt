-- The tests of marks and numbers, and those that try all lists, at small networks.
use Rattle.std.proofs.Common.{◌≡◌, ℕ, true, false, List, [], ◌∷◌, map, Option, Some, None, refl}
use Rattle.pls_configuration.specs.declared.row.NodeRow.{NodeRow}
use Rattle.pls_truth_values.specs.MarkTests.{count_test, leader_test}
use Rattle.pls_truth_values.specs.SearchTests.{acyclic_test, all_lists, bipartite_test, lists_up_to, mst_test}

-- a node with this pointer, this mark, this number, and ports to these with their weights
abbrev node : ℕ → Option ℕ → ℕ → ℕ → List (ℕ × ℕ) → NodeRow
node id up mark num links =
    record {
      id = id;
      state = record { up = up; mark = mark; num = num };
      ports = map (λ link. record { nbr = link.0; weight = link.1 }) links;
    }

-- two nodes with these marks
abbrev marked_pair : ℕ → ℕ → List NodeRow
marked_pair one other =
    node 1 None one 0 ((2, 1) ∷ []) ∷ node 2 None other 0 ((1, 1) ∷ []) ∷ []

one_leader : leader_test (marked_pair 0 1) ≡ true
one_leader = refl

-- only the mark 1 is that of a leader
no_leader : leader_test (marked_pair 0 2) ≡ false
no_leader = refl

two_leaders : leader_test (marked_pair 1 1) ≡ false
two_leaders = refl

-- two nodes with these numbers
abbrev numbered_pair : ℕ → ℕ → List NodeRow
numbered_pair one other =
    node 1 None 0 one ((2, 1) ∷ []) ∷ node 2 None 0 other ((1, 1) ∷ []) ∷ []

both_counted : count_test (numbered_pair 2 2) ≡ true
both_counted = refl

one_miscounted : count_test (numbered_pair 2 3) ≡ false
one_miscounted = refl

-- each choice of two out of two items, and each of fewer
lists_of_two : all_lists {X = ℕ} (1 ∷ 2 ∷ []) 2
    ≡ (1 ∷ 1 ∷ []) ∷ (1 ∷ 2 ∷ []) ∷ (2 ∷ 1 ∷ []) ∷ (2 ∷ 2 ∷ []) ∷ []
lists_of_two = refl

lists_to_one : lists_up_to {X = ℕ} (1 ∷ 2 ∷ []) 1 ≡ [] ∷ (1 ∷ []) ∷ (2 ∷ []) ∷ []
lists_to_one = refl

-- three nodes, each two adjacent; the edge between 1 and 3 is the heaviest
abbrev triangle : Option ℕ → Option ℕ → Option ℕ → List NodeRow
triangle one two three =
    node 1 one 0 0 ((2, 1) ∷ (3, 3) ∷ []) ∷ node 2 two 0 0 ((1, 1) ∷ (3, 2) ∷ [])
    ∷ node 3 three 0 0 ((1, 3) ∷ (2, 2) ∷ []) ∷ []

-- four nodes in a ring
abbrev square : List NodeRow
square =
    node 1 None 0 0 ((2, 1) ∷ (4, 1) ∷ []) ∷ node 2 None 0 0 ((1, 1) ∷ (3, 1) ∷ [])
    ∷ node 3 None 0 0 ((2, 1) ∷ (4, 1) ∷ []) ∷ node 4 None 0 0 ((1, 1) ∷ (3, 1) ∷ []) ∷ []

triangle_not_coloured : bipartite_test (triangle None None None) ≡ false
triangle_not_coloured = refl

square_coloured : bipartite_test square ≡ true
square_coloured = refl

triangle_has_cycle : acyclic_test (triangle None None None) ≡ false
triangle_has_cycle = refl

square_has_cycle : acyclic_test square ≡ false
square_has_cycle = refl

-- there and back along one edge is no cycle
pair_has_none : acyclic_test (marked_pair 0 0) ≡ true
pair_has_none = refl

-- from 3 to 2 and from 2 to 1, past the heaviest edge
light_pointers : mst_test (triangle None (Some 0) (Some 1)) ≡ true
light_pointers = refl

-- from 3 to 1 along the heaviest edge
heavy_pointer : mst_test (triangle None (Some 0) (Some 0)) ≡ false
heavy_pointer = refl

-- 1 and 2 point at each other, and 3 at none
round_pointers : mst_test (triangle (Some 0) (Some 0) None) ≡ false
round_pointers = refl

two_roots : mst_test (triangle None None (Some 1)) ≡ false
two_roots = refl

-- a node alone is its own tree
single_tree : mst_test (node 1 None 0 0 [] ∷ []) ≡ true
single_tree = refl
