-- The scheme of maximal independent sets: the property, what a label says, what a node judges, and
-- the marker's labels (Göös and Suomela, "Locally checkable proofs in distributed computing",
-- Theory of Computing 12 (2016), on problems that are solved by marks).
use Rattle.std.specs.Prelude.{◌≡◌, ℕ, ◌==◌, Bool, not, ◌&&◌, ◌||◌, List, [], ◌∷◌, Contains, get_or}
use Rattle.std.specs.List.{list_any}
use Rattle.pls_configuration.specs.declared.row.NodeRow.{NodeRow}
use Rattle.pls_configuration.specs.Walk.{Adjacent, edges_of}
use Rattle.pls_graph.specs.declared.size.Size.{Size}
use Rattle.pls_numbers.specs.Fixed.{fixed_shape}
use Rattle.pls_numbers.specs.Shape.{Shape}
use Rattle.pls_scheme.specs.Reading.{Read, ReadPort}
use Rattle.pls_scheme_tests.specs.declared.independent_set.MarkLabel.{MarkLabel}

-- the node of this identity is in the set: it has mark 1
abbrev pub IsInside : List NodeRow → ℕ → Type 0
IsInside rows id = (row : NodeRow) × Contains rows row × (row.id ≡ id) × (row.state.mark ≡ 1)

-- no edge joins two nodes of the set
abbrev pub IsIndependent : List NodeRow → Type 0
IsIndependent rows = (u v : ℕ) → Adjacent (edges_of rows) u v → IsInside rows u → IsInside rows v
    → ⊥

-- each node outside is adjacent to one of the set
abbrev pub IsMaximal : List NodeRow → Type 0
IsMaximal rows = (row : NodeRow) → Contains rows row → (row.state.mark ≡ 1 → ⊥)
    → (other : ℕ) × Adjacent (edges_of rows) row.id other × IsInside rows other

-- no edge joins two nodes of the set, and each node outside is adjacent to one of the set
abbrev pub IsMaximalIndependent : List NodeRow → Type 0
IsMaximalIndependent rows = IsIndependent rows × IsMaximal rows

-- the number of a label
abbrev pub numbers_of_mark : MarkLabel → List ℕ
numbers_of_mark label = label.mark ∷ []

-- the label of a number
abbrev pub mark_label : List ℕ → MarkLabel
mark_label list = record { mark = get_or list 0 0 }

-- a label is one number, in code
abbrev pub mark_shape : Shape MarkLabel
mark_shape = fixed_shape 1 numbers_of_mark mark_label

-- the neighbour is in the set
abbrev pub is_inside : ReadPort MarkLabel → Bool
is_inside port = port.label.mark == 1

-- rule 3: the label is the node's mark
abbrev pub says_its_mark : Read MarkLabel → Bool
says_its_mark view = view.own.mark == view.state.mark

-- rule 4: a node of the set has no neighbour in it
abbrev pub is_apart : Read MarkLabel → Bool
is_apart view = not (view.own.mark == 1 && list_any is_inside view.ports)

-- rule 5: a node outside of the set has a neighbour in it
abbrev pub has_one_beside : Read MarkLabel → Bool
has_one_beside view = view.own.mark == 1 || list_any is_inside view.ports

-- the rules from 3 on
abbrev pub independent_rules : Read MarkLabel → List Bool
independent_rules view = says_its_mark view ∷ is_apart view ∷ has_one_beside view ∷ []

-- the label of a node
abbrev pub mark_of : NodeRow → MarkLabel
mark_of row = record { mark = row.state.mark }

-- the label of a node is its mark
abbrev pub independent_says : List NodeRow → NodeRow → MarkLabel → Type 0
independent_says rows row label = label ≡ mark_of row

-- no number of a marked label is greater: the greatest mark
abbrev pub independent_limits : Size → List ℕ
independent_limits size = size.max_mark ∷ []
