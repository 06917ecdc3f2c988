-- The scheme of shortest-path trees: what a label says, what a node judges, and the marker's
-- labels. What labels say of the tree is checked as in the scheme of trees; beside it each node has
-- its distance from the root (Korman, Kutten and Peleg 2010, where distances are weighted).
use Rattle.std.specs.Prelude.{◌≡◌, ℕ, ◌+◌, ◌*◌, ◌==◌, nat_le, Bool, true, ◌&&◌, ◌||◌, List, [], ◌∷◌, map, Contains, get_or, None}
use Rattle.std.specs.List.{list_all}
use Rattle.std.specs.Option.{option_map_or}
use Rattle.pls_configuration.specs.declared.row.NodeRow.{NodeRow}
use Rattle.pls_graph.specs.declared.size.Size.{Size}
use Rattle.pls_numbers.specs.Fixed.{fixed_shape}
use Rattle.pls_numbers.specs.Shape.{Shape}
use Rattle.pls_scheme.specs.Reading.{Read, ReadPort, port_with, reading, target}
use Rattle.pls_facts.specs.Pointer.{IsChainOf}
use Rattle.pls_facts.specs.Weight.{walk_weight}
use Rattle.pls_pointer.specs.Pointing.{points}
use Rattle.pls_pointer.specs.Tree.{agrees_on_tree_root, is_deeper_in_tree, points_or_is_root}
use Rattle.pls_pointer.specs.declared.tree.TreeLabel.{TreeLabel}
use Rattle.pls_distance.specs.declared.spt.SptLabel.{SptLabel}

-- the numbers of a label
abbrev pub numbers_of_spt : SptLabel → List ℕ
numbers_of_spt label = label.root ∷ label.depth ∷ label.dist ∷ []

-- the label of three numbers
abbrev pub spt_label : List ℕ → SptLabel
spt_label list =
    record { root = get_or list 0 0; depth = get_or list 1 0; dist = get_or list 2 0 }

-- a label is three numbers, each in code
abbrev pub spt_shape : Shape SptLabel
spt_shape = fixed_shape 3 numbers_of_spt spt_label

-- what a label says of the tree
abbrev pub tree_part : SptLabel → TreeLabel
tree_part label = record { root = label.root; depth = label.depth }

-- what a node reads of the tree at a port
abbrev pub tree_port : ReadPort SptLabel → ReadPort TreeLabel
tree_port port = port_with port.weight (tree_part port.label)

-- what a node reads of the tree
abbrev pub tree_reading : Read SptLabel → Read TreeLabel
tree_reading view =
    reading view.id view.state (tree_part view.own) (map tree_port view.ports)

-- rule 3: every neighbour's root is the own root
abbrev pub agrees_on_its_root : Read SptLabel → Bool
agrees_on_its_root view = agrees_on_tree_root (tree_reading view)

-- rule 4: the node points at a port, or it is the root, of depth 0 and distance 0
abbrev pub points_or_is_there : Read SptLabel → Bool
points_or_is_there view =
    points_or_is_root (tree_reading view) && (points view || view.own.dist == 0)

-- the node points at no port, or it is farther than the node that it points at by the weight of the
-- edge
abbrev pub is_farther_than_target : Read SptLabel → Bool
is_farther_than_target view =
    option_map_or (λ port. view.own.dist == port.label.dist + port.weight) (target view) true

-- rule 5: the node points at no port, or it is one deeper than the node that it points at, and
-- farther by the weight of the edge
abbrev pub is_beyond_target : Read SptLabel → Bool
is_beyond_target view = is_deeper_in_tree (tree_reading view) && is_farther_than_target view

-- the distance is at most what it would be by way of the port
abbrev pub is_reached_by : ℕ → ReadPort SptLabel → Bool
is_reached_by dist port = nat_le dist (port.label.dist + port.weight)

-- rule 6: by none of its ports the node would be nearer
abbrev pub is_nearest : Read SptLabel → Bool
is_nearest view = list_all (is_reached_by view.own.dist) view.ports

-- the rules from 3 on
abbrev pub spt_rules : Read SptLabel → List Bool
spt_rules view =
    agrees_on_its_root view ∷ points_or_is_there view ∷ is_beyond_target view ∷ is_nearest view ∷ []

-- the label of a node is the root's identity, the root being the node without pointer, the length
-- of the node's chain of pointers, and the weight of the chain
abbrev pub spt_says : List NodeRow → NodeRow → SptLabel → Type 0
spt_says rows row label =
    (root : NodeRow) → Contains rows root → root.state.up ≡ None
    → (label.root ≡ root.id) × (chain : IsChainOf rows row.id root.id label.depth)
    × (label.dist ≡ walk_weight rows row.id chain.nodes)

-- no numbers of a marked label are greater: the greatest identity, the number of nodes, and the
-- greatest weight as many times
abbrev pub spt_limits : Size → List ℕ
spt_limits size = size.max_id ∷ size.nodes ∷ size.nodes * size.max_weight ∷ []
