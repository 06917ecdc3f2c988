-- The classes into which edges put nodes: nodes of one class are exactly those that are joined.
use Rattle.std.specs.Prelude.{ℕ, ◌==◌, cond, Bool, List, [], ◌∷◌}
use Rattle.std.specs.List.{list_all}
use Rattle.pls_configuration.specs.Walk.{Edge}

-- what becomes of a class when class `from` is put into class `to`
abbrev pub moved : ℕ → ℕ → ℕ → ℕ
moved from to class = cond (class == from) to class

-- the node that stands for all nodes of a node's class: without edges each node stands for itself,
-- and each edge puts the class of its one end into that of the other
abbrev pub class_of : List Edge → ℕ → ℕ
class_of [] node = node
class_of (edge ∷ edges) node =
    moved (class_of edges edge.a) (class_of edges edge.b) (class_of edges node)

-- the edges join all nodes: they put each two into one class
abbrev pub joins_all : List Edge → List ℕ → Bool
joins_all edges nodes =
    list_all (λ u. list_all (λ v. class_of edges u == class_of edges v) nodes) nodes
