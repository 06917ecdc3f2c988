-- The scheme of the number of nodes: what a label says, what a node judges, and the marker's
-- labels. The property is that each node's number is the number of nodes; it shows by sizes that
-- are summed along a tree (Korman, Kutten and Peleg 2010).
use Rattle.std.specs.Prelude.{◌≡◌, ◌≢◌, ℕ, ◌+◌, ◌≤◌, ◌==◌, nat_lt, Bool, ◌&&◌, ◌||◌, List, [], ◌∷◌, length, sum_by, slice_get, Contains, get_or, Some}
use Rattle.std.specs.List.{filter, list_all, list_any}
use Rattle.pls_configuration.specs.declared.row.NodeRow.{NodeRow}
use Rattle.pls_configuration.specs.Configuration.{ids_of}
use Rattle.pls_configuration.specs.Walk.{Adjacent, edges_of}
use Rattle.pls_graph.specs.Levels.{IsLevel}
use Rattle.pls_graph.specs.declared.size.Size.{Size}
use Rattle.pls_numbers.specs.Fixed.{fixed_shape}
use Rattle.pls_numbers.specs.Shape.{Shape}
use Rattle.pls_scheme.specs.Reading.{Read, ReadPort}
use Rattle.pls_facts.specs.Parents.{AreSoMany, ChainMeets}
use Rattle.pls_leader.specs.declared.count.CountLabel.{CountLabel}
use Rattle.pls_leader.specs.Rooted.{is_0_at_root_alone}

-- the numbers of a label
abbrev pub numbers_of_count : CountLabel → List ℕ
numbers_of_count label =
    label.root ∷ label.own ∷ label.parent ∷ label.depth ∷ label.size ∷ label.total ∷ []

-- the label of these parts
abbrev pub count_of : ℕ → ℕ → ℕ → ℕ → ℕ → ℕ → CountLabel
count_of root own parent depth size total =
    record { root = root; own = own; parent = parent; depth = depth; size = size; total = total }

-- the label of six numbers
abbrev pub count_label : List ℕ → CountLabel
count_label list =
    count_of (get_or list 0 0) (get_or list 1 0) (get_or list 2 0) (get_or list 3 0)
    (get_or list 4 0) (get_or list 5 0)

-- a label is six numbers, each in code
abbrev pub count_shape : Shape CountLabel
count_shape = fixed_shape 6 numbers_of_count count_label

-- the neighbour has this root and this total
abbrev pub names_root_and_total : CountLabel → ReadPort CountLabel → Bool
names_root_and_total own port = port.label.root == own.root && port.label.total == own.total

-- the neighbour is the parent, and one less deep
abbrev pub is_parent_above : CountLabel → ReadPort CountLabel → Bool
is_parent_above own port = port.label.own == own.parent && own.depth == port.label.depth + 1

-- the neighbour's parent is this node
abbrev pub is_own_child : ℕ → ReadPort CountLabel → Bool
is_own_child id port = id == port.label.parent

-- the sizes together of the neighbours whose parent is this node
abbrev pub children_sizes : ℕ → List (ReadPort CountLabel) → ℕ
children_sizes id ports = sum_by (λ port. port.label.size) (filter (is_own_child id) ports)

-- rule 3: every neighbour has the own root and the own total
abbrev pub agrees_on_count : Read CountLabel → Bool
agrees_on_count view = list_all (names_root_and_total view.own) view.ports

-- rule 4: own is the identity, and the total is the node's number
abbrev pub names_itself_and_total : Read CountLabel → Bool
names_itself_and_total view = view.own.own == view.id && view.own.total == view.state.num

-- rule 5: the depth is 0 exactly where the identity is the root
abbrev pub count_root_is_at_0 : Read CountLabel → Bool
count_root_is_at_0 view = is_0_at_root_alone view.id view.own.root view.own.depth

-- rule 6: the depth is above 0, or the parent is the node itself and the size is the total
abbrev pub is_below_or_whole : Read CountLabel → Bool
is_below_or_whole view =
    nat_lt 0 view.own.depth || (view.own.parent == view.id && view.own.size == view.own.total)

-- rule 7: the depth is 0, or some neighbour is the parent and one less deep
abbrev pub falls_to_parent : Read CountLabel → Bool
falls_to_parent view = view.own.depth == 0 || list_any (is_parent_above view.own) view.ports

-- rule 8: the size is one more than the sizes of the neighbours whose parent is the node
abbrev pub is_summed : Read CountLabel → Bool
is_summed view = view.own.size == children_sizes view.id view.ports + 1

-- the rules from 3 on
abbrev pub count_rules : Read CountLabel → List Bool
count_rules view = agrees_on_count view ∷ names_itself_and_total view ∷ count_root_is_at_0 view
    ∷ is_below_or_whole view ∷ falls_to_parent view ∷ is_summed view ∷ []

-- the other node is one edge nearer to the root
abbrev pub IsOneNearer : List NodeRow → ℕ → ℕ → ℕ → Type 0
IsOneNearer rows root node other =
    (level : ℕ) × IsLevel (edges_of rows) root node (level + 1)
    × IsLevel (edges_of rows) root other level

-- the parent of a node: of its neighbours that are one edge nearer to the root, the one of smallest
-- identity
pub record IsParent (rows : List NodeRow) (root node parent : ℕ) : Type 0 where
  pub beside : Adjacent (edges_of rows) node parent
  pub nearer : IsOneNearer rows root node parent
  pub smallest : (other : ℕ) → Adjacent (edges_of rows) node other
      → IsOneNearer rows root node other → parent ≤ other

-- what is right for the node of a row, where the root is the node of smallest identity
pub record IsCounted (rows : List NodeRow) (root : ℕ) (row : NodeRow) (label : CountLabel)
    : Type 0 where
  pub root_is : label.root ≡ root
  pub own : label.own ≡ row.id
  pub depth : IsLevel (edges_of rows) root row.id label.depth
  pub at_root : row.id ≡ root → label.parent ≡ row.id
  pub parent : row.id ≢ root → IsParent rows root row.id label.parent
  pub size : AreSoMany
      (λ id. Contains (ids_of rows) id × ChainMeets (IsParent rows root) id row.id) label.size
  pub total : label.total ≡ length rows

-- the label of a node: the root is the node of smallest identity, which stands first; the size
-- counts the nodes whose chain of parents meets the node
abbrev pub count_says : List NodeRow → NodeRow → CountLabel → Type 0
count_says rows row label =
    (first : NodeRow) → slice_get rows 0 ≡ Some first → IsCounted rows first.id row label

-- no numbers of a marked label are greater: the greatest identity, and the number of nodes
abbrev pub count_limits : Size → List ℕ
count_limits size =
    size.max_id ∷ size.max_id ∷ size.max_id ∷ size.nodes ∷ size.nodes ∷ size.nodes ∷ []
