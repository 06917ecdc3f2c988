-- What pointers make of a network, as functions from rows to a truth value.
use Rattle.std.specs.Prelude.{ℕ, zero, suc, ◌+◌, ◌==◌, nat_le, nat_lt, Bool, ◌&&◌, List, [], ◌∷◌, length, count_by}
use Rattle.std.specs.List.{list_all}
use Rattle.std.specs.Option.{option_map_or}
use Rattle.pls_configuration.specs.declared.row.Port.{Port}
use Rattle.pls_configuration.specs.declared.row.NodeRow.{NodeRow}
use Rattle.pls_configuration.specs.Configuration.{ids_of}
use Rattle.pls_facts.specs.Pointer.{pointed_node}
use Rattle.pls_facts.specs.SpanningTree.{is_root}
use Rattle.pls_facts.specs.Weight.{walk_weight}

-- the nodes that pointers lead to from a node, one behind the other: so many at most, and fewer
-- where one of them points at none
unfoldable pub chain_within : List NodeRow → ℕ → ℕ → List ℕ
chain_within rows zero u = []
chain_within rows (suc most) u =
    option_map_or (λ above. above ∷ chain_within rows most above) (pointed_node rows u) []

-- the nodes that pointers lead to from a node, one behind the other, at most as many as there are
-- nodes
abbrev pub chain_of : List NodeRow → ℕ → List ℕ
chain_of rows u = chain_within rows (length rows) u

-- following pointers from a node ends before it has come to as many nodes as there are
abbrev pub has_end : List NodeRow → ℕ → Bool
has_end rows u = nat_lt (length (chain_of rows u)) (length rows)

-- from each node following pointers ends: no chain of pointers returns
abbrev pub forest_test : List NodeRow → Bool
forest_test rows = list_all (has_end rows) (ids_of rows)

-- no chain of pointers returns, and exactly one node has no pointer
abbrev pub tree_test : List NodeRow → Bool
tree_test rows = forest_test rows && count_by is_root rows == 1

-- what the edges of the chain of a node weigh together
abbrev pub chain_weight : List NodeRow → ℕ → ℕ
chain_weight rows u = walk_weight rows u (chain_of rows u)

-- the way over the port is no lighter: the chain of the node weighs at most what the chain of the
-- neighbour and the edge to it weigh together
abbrev pub is_no_lighter : List NodeRow → NodeRow → Port → Bool
is_no_lighter rows row port =
    nat_le (chain_weight rows row.id) (chain_weight rows port.nbr + port.weight)

-- by none of its ports has the node a lighter way than its own chain
abbrev pub has_lightest : List NodeRow → NodeRow → Bool
has_lightest rows row = list_all (is_no_lighter rows row) row.ports

-- the pointers make a tree, and no port of any node offers it a lighter way to the root
abbrev pub spt_test : List NodeRow → Bool
spt_test rows = tree_test rows && list_all (has_lightest rows) rows
