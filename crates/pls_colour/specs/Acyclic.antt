-- The scheme of networks without cycle: what a label says, what a node judges, and the marker's
-- labels. The property is that no edges make a cycle through three or more nodes.
use Rattle.std.specs.Prelude.{ℕ, ◌+◌, ◌==◌, nat_le, Bool, ◌||◌, List, [], ◌∷◌, count_by, get_or}
use Rattle.std.specs.List.{list_all}
use Rattle.pls_configuration.specs.declared.row.NodeRow.{NodeRow}
use Rattle.pls_graph.specs.declared.size.Size.{Size}
use Rattle.pls_numbers.specs.Fixed.{fixed_shape}
use Rattle.pls_numbers.specs.Shape.{Shape}
use Rattle.pls_scheme.specs.Reading.{Read, ReadPort}
use Rattle.pls_colour.specs.declared.acyclic.AcyclicLabel.{AcyclicLabel}
use Rattle.pls_colour.specs.Levelled.{saying_level}

-- the number of a label
abbrev pub numbers_of_acyclic : AcyclicLabel → List ℕ
numbers_of_acyclic label = label.depth ∷ []

-- the label with this depth
abbrev pub acyclic_label_at : ℕ → AcyclicLabel
acyclic_label_at depth = record { depth = depth }

-- the label of a number
abbrev pub acyclic_label : List ℕ → AcyclicLabel
acyclic_label list = acyclic_label_at (get_or list 0 0)

-- a label is one number, in code
abbrev pub acyclic_shape : Shape AcyclicLabel
acyclic_shape = fixed_shape 1 numbers_of_acyclic acyclic_label

-- the neighbour is one deeper, or one less deep
abbrev pub is_beside : ℕ → ReadPort AcyclicLabel → Bool
is_beside own port = port.label.depth == own + 1 || own == port.label.depth + 1

-- the neighbour is one less deep
abbrev pub is_above : ℕ → ReadPort AcyclicLabel → Bool
is_above own port = port.label.depth + 1 == own

-- rule 3: each neighbour is one deeper, or one less deep
abbrev pub differs_by_one : Read AcyclicLabel → Bool
differs_by_one view = list_all (is_beside view.own.depth) view.ports

-- rule 4: at most one neighbour is one less deep
abbrev pub has_one_above : Read AcyclicLabel → Bool
has_one_above view = nat_le (count_by (is_above view.own.depth) view.ports) 1

-- the rules from 3 on
abbrev pub acyclic_rules : Read AcyclicLabel → List Bool
acyclic_rules view = differs_by_one view ∷ has_one_above view ∷ []

-- the label of a node is its level: its distance in edges from the node whose identity is smallest
abbrev pub acyclic_says : List NodeRow → NodeRow → AcyclicLabel → Type 0
acyclic_says rows row label = saying_level acyclic_label_at rows row label

-- no number of a marked label is greater: the number of nodes
abbrev pub acyclic_limits : Size → List ℕ
acyclic_limits size = size.nodes ∷ []
