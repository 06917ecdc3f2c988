-- Pieces that edges hold together, and the centroid of a piece: the node without which it falls
-- into parts of which none has more than half of its nodes (Jordan 1869, "Sur les assemblages de
-- lignes").
use Rattle.std.specs.Prelude.{ℕ, ◌*◌, ◌==◌, nat_le, Bool, false, not, ◌||◌, List, length, filter, find, Option}
use Rattle.std.specs.List.{list_all}
use Rattle.std.specs.Option.{option_map_or}
use Rattle.pls_configuration.specs.Walk.{Edge}
use Rattle.pls_facts.specs.Classes.{class_of}

-- two nodes are in one piece: the edges join them
abbrev pub are_together : List Edge → ℕ → ℕ → Bool
are_together edges u v = class_of edges u == class_of edges v

-- the nodes of the piece of a node, in their order
abbrev pub piece_of : List Edge → List ℕ → ℕ → List ℕ
piece_of edges nodes u = filter (are_together edges u) nodes

-- the edges that are left where some nodes are taken away
abbrev pub edges_without : (ℕ → Bool) → List Edge → List Edge
edges_without taken edges = filter (λ edge. not (taken edge.a || taken edge.b)) edges

-- the nodes with which a node is still together when u is taken away
abbrev pub part_of : List Edge → List ℕ → ℕ → ℕ → List ℕ
part_of edges nodes u v = piece_of (edges_without (λ w. w == u) edges) nodes v

-- when u is taken away, none of the parts of its piece has more than half of the nodes of the piece
abbrev pub is_central : List Edge → List ℕ → ℕ → Bool
is_central edges nodes u =
    list_all (λ v. v == u || nat_le (2 * length (part_of edges nodes u v))
    (length (piece_of edges nodes u))) (piece_of edges nodes u)

-- the centroid of the piece of a node: the first of its nodes that is central; nodes stand in the
-- order of their identities
abbrev pub centroid_of : List Edge → List ℕ → ℕ → Option ℕ
centroid_of edges nodes u = find (is_central edges nodes) (piece_of edges nodes u)

-- the node is the centroid of its piece
abbrev pub is_centroid : List Edge → List ℕ → ℕ → Bool
is_centroid edges nodes u = option_map_or (λ centroid. centroid == u) (centroid_of edges nodes u)
    false

-- the edges that hold the pieces of the next level together: those that end at no centroid
abbrev pub next_edges : List ℕ → List Edge → List Edge
next_edges nodes edges = edges_without (is_centroid edges nodes) edges
