-- The scheme of trees: what a label says, what a node judges, and the marker's labels. The property
-- is that exactly one node has no pointer, and that the edges along which the others point are a
-- spanning tree (Korman, Kutten and Peleg 2010, the spanning tree scheme).
use Rattle.std.specs.Prelude.{◌≡◌, ℕ, ◌==◌, Bool, ◌&&◌, ◌||◌, List, [], ◌∷◌, Contains, get_or, None}
use Rattle.pls_configuration.specs.declared.row.NodeRow.{NodeRow}
use Rattle.pls_graph.specs.declared.size.Size.{Size}
use Rattle.pls_numbers.specs.Fixed.{fixed_shape}
use Rattle.pls_numbers.specs.Shape.{Shape}
use Rattle.pls_scheme.specs.Reading.{Read, agrees_on}
use Rattle.pls_facts.specs.Pointer.{IsChainOf}
use Rattle.pls_pointer.specs.Pointing.{is_one_deeper_than_target, points}
use Rattle.pls_pointer.specs.declared.tree.TreeLabel.{TreeLabel}

-- the numbers of a label
abbrev pub numbers_of_tree : TreeLabel → List ℕ
numbers_of_tree label = label.root ∷ label.depth ∷ []

-- the label of two numbers
abbrev pub tree_label : List ℕ → TreeLabel
tree_label list = record { root = get_or list 0 0; depth = get_or list 1 0 }

-- a label is two numbers, each in code
abbrev pub tree_shape : Shape TreeLabel
tree_shape = fixed_shape 2 numbers_of_tree tree_label

-- rule 3: every neighbour's root is the own root
abbrev pub agrees_on_tree_root : Read TreeLabel → Bool
agrees_on_tree_root view = agrees_on (λ label. label.root) view

-- rule 4: the node points at a port, or it is the root, of depth 0
abbrev pub points_or_is_root : Read TreeLabel → Bool
points_or_is_root view = points view || (view.own.depth == 0 && view.id == view.own.root)

-- rule 5: the node points at no port, or it is one deeper than the node that it points at
abbrev pub is_deeper_in_tree : Read TreeLabel → Bool
is_deeper_in_tree view = is_one_deeper_than_target (λ label. label.depth) view

-- the rules from 3 on
abbrev pub tree_rules : Read TreeLabel → List Bool
tree_rules view = agrees_on_tree_root view ∷ points_or_is_root view ∷ is_deeper_in_tree view ∷ []

-- the label of a node is the root's identity, the root being the node without pointer, and the
-- length of the node's chain of pointers
abbrev pub tree_says : List NodeRow → NodeRow → TreeLabel → Type 0
tree_says rows row label =
    (root : NodeRow) → Contains rows root → root.state.up ≡ None
    → (label.root ≡ root.id) × IsChainOf rows row.id root.id label.depth

-- no numbers of a marked label are greater: the greatest identity, and the number of nodes
abbrev pub tree_limits : Size → List ℕ
tree_limits size = size.max_id ∷ size.nodes ∷ []
