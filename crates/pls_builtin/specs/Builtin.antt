-- The rule sets that have names. A field stands in a rule by its number, from 0.
use Rattle.std.specs.Prelude.{ℕ, if◌then◌else◌, List, [], ◌∷◌, Option, Some, None, codes, bytes_eq, option_and_then}
use Rattle.pls_rules.specs.declared.field.Field.{Field}
use Rattle.pls_numbers.specs.declared.kind.FieldKind.{FieldKind}
use Rattle.pls_numbers.specs.declared.kind.FieldKind.TheVariants.{Num as InCode, Bit}
use Rattle.pls_names.specs.declared.scheme_name.SchemeName.{SchemeName}
use Rattle.pls_names.specs.declared.scheme_name.SchemeName.TheVariants.{Acyclic, Bipartite, Count, Forest, Leader, MinimumSpanningTree, PathMax, ShortestPathTree, Tree}
use Rattle.pls_rules.specs.Formula.{Eq, Lt, Le, Same, Both, Either, Not, All, Any, Number, Id, Mark, Num, Pointed, My, Up, UpWeight, Nb, NbWeight, Add, Sum}
use Rattle.pls_rules.specs.RuleSet.{Rules, rules_of}

-- a field with this name, written so
abbrev pub field : List ℕ → FieldKind → Field
field name kind = record { name = name; kind = kind }

-- a field with this name, written in the number code
abbrev pub number : List ℕ → Field
number name = field name InCode

-- `leader`, of root and depth: the neighbours name the own root; the depth is 0 exactly at the
-- root; it is 0, or some neighbour is one less deep; the mark is 1 exactly where the depth is 0
abbrev pub leader_set : Rules
leader_set = rules_of (number (codes "root") ∷ number (codes "depth") ∷ [])
    (All (Eq (Nb 0) (My 0))
    ∷ Same (Eq (My 1) (Number 0)) (Eq Id (My 0))
    ∷ Either (Eq (My 1) (Number 0)) (Any (Eq (Add (Nb 1) (Number 1)) (My 1)))
    ∷ Same (Eq Mark (Number 1)) (Eq (My 1) (Number 0)) ∷ [])

-- `tree`, of root and depth: the neighbours name the own root; the node points at a port, or it is
-- the root, of depth 0; it points at no port, or it is one deeper than the node that it points at
abbrev pub tree_set : Rules
tree_set = rules_of (number (codes "root") ∷ number (codes "depth") ∷ [])
    (All (Eq (Nb 0) (My 0))
    ∷ Either (Eq Pointed (Number 1)) (Both (Eq (My 1) (Number 0)) (Eq Id (My 0)))
    ∷ Either (Eq Pointed (Number 0)) (Eq (My 1) (Add (Up 1) (Number 1))) ∷ [])

-- `forest`, of depth: the node points at a port, or its depth is 0; it points at no port, or it is
-- one deeper than the node that it points at
abbrev pub forest_set : Rules
forest_set = rules_of (number (codes "depth") ∷ [])
    (Either (Eq Pointed (Number 1)) (Eq (My 0) (Number 0))
    ∷ Either (Eq Pointed (Number 0)) (Eq (My 0) (Add (Up 0) (Number 1))) ∷ [])

-- `spt`, of root, depth and distance: as `tree`, the distance being 0 at the root and elsewhere
-- that of the node pointed at and the weight of the edge; by no port would the node be nearer
abbrev pub spt_set : Rules
spt_set = rules_of (number (codes "root") ∷ number (codes "depth") ∷ number (codes "dist") ∷ [])
    (All (Eq (Nb 0) (My 0))
    ∷ Either (Eq Pointed (Number 1))
    (Both (Both (Eq (My 1) (Number 0)) (Eq (My 2) (Number 0))) (Eq Id (My 0)))
    ∷ Either (Eq Pointed (Number 0))
    (Both (Eq (My 1) (Add (Up 1) (Number 1))) (Eq (My 2) (Add (Up 2) UpWeight)))
    ∷ All (Le (My 2) (Add (Nb 2) NbWeight)) ∷ [])

-- `bipartite`, of a colour: each neighbour's colour is another
abbrev pub bipartite_set : Rules
bipartite_set = rules_of (field (codes "colour") Bit ∷ []) (All (Not (Eq (Nb 0) (My 0))) ∷ [])

-- `acyclic`, of depth: each neighbour is one deeper, or one less deep; at most one is one less deep
abbrev pub acyclic_set : Rules
acyclic_set = rules_of (number (codes "depth") ∷ [])
    (All (Either (Eq (Nb 0) (Add (My 0) (Number 1))) (Eq (Add (Nb 0) (Number 1)) (My 0)))
    ∷ Le (Sum (Eq (Add (Nb 0) (Number 1)) (My 0)) (Number 1)) (Number 1) ∷ [])

-- the fields of `count`
abbrev pub count_fields : List Field
count_fields = number (codes "root") ∷ number (codes "own") ∷ number (codes "parent")
    ∷ number (codes "depth") ∷ number (codes "size") ∷ number (codes "total") ∷ []

-- `count`, of root, own identity, parent, depth, size and total: the neighbours have the own root
-- and total; own is the identity and the total is the state's number; the depth is 0 exactly at the
-- root; it is above 0, or the node is its own parent and its size is the total; it is 0, or some
-- neighbour is the parent and one less deep; the size is one more than the sizes of the neighbours
-- whose parent is the node
abbrev pub count_set : Rules
count_set = rules_of count_fields
    (All (Both (Eq (Nb 0) (My 0)) (Eq (Nb 5) (My 5)))
    ∷ Both (Eq (My 1) Id) (Eq (My 5) Num)
    ∷ Same (Eq (My 3) (Number 0)) (Eq (My 0) Id)
    ∷ Either (Lt (Number 0) (My 3)) (Both (Eq (My 2) Id) (Eq (My 4) (My 5)))
    ∷ Either (Eq (My 3) (Number 0))
    (Any (Both (Eq (Nb 1) (My 2)) (Eq (Add (Nb 3) (Number 1)) (My 3))))
    ∷ Eq (My 4) (Add (Sum (Eq (Nb 2) Id) (Nb 4)) (Number 1)) ∷ [])

-- the set that has the name of a scheme, if one has
abbrev pub set_of_name : SchemeName → Option Rules
set_of_name Leader = Some leader_set
set_of_name Tree = Some tree_set
set_of_name Forest = Some forest_set
set_of_name ShortestPathTree = Some spt_set
set_of_name Bipartite = Some bipartite_set
set_of_name Acyclic = Some acyclic_set
set_of_name Count = Some count_set
set_of_name MinimumSpanningTree = None
set_of_name PathMax = None

-- the scheme whose name is a word that names a set too
abbrev pub name_with_set : List ℕ → Option SchemeName
name_with_set word =
    if bytes_eq word (codes "leader") then Some Leader
    else (if bytes_eq word (codes "tree") then Some Tree
    else (if bytes_eq word (codes "forest") then Some Forest
    else (if bytes_eq word (codes "spt") then Some ShortestPathTree
    else (if bytes_eq word (codes "bipartite") then Some Bipartite
    else (if bytes_eq word (codes "acyclic") then Some Acyclic
    else (if bytes_eq word (codes "count") then Some Count else None))))))

-- the set of a word, if it names one
abbrev pub set_named : List ℕ → Option Rules
set_named word = option_and_then set_of_name (name_with_set word)
