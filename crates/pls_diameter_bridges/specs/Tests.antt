-- The two properties as functions from rows to a truth value, for judgements that are computed.
use Rattle.std.specs.Prelude.{ℕ, zero, suc, ◌==◌, Bool, ◌&&◌, ◌||◌, List}
use Rattle.std.specs.List.{list_all, list_any}
use Rattle.pls_configuration.specs.declared.row.NodeRow.{NodeRow}
use Rattle.pls_configuration.specs.Configuration.{ids_of}
use Rattle.pls_configuration.specs.Walk.{Edge, edges_of}
use Rattle.pls_facts.specs.Classes.{joins_all}
use Rattle.pls_diameter_bridges.specs.Bridgeless.{without}

-- some edge leads from u to a node that passes
abbrev pub leads_to : List Edge → (ℕ → Bool) → ℕ → Bool
leads_to edges passes u =
    list_any (λ edge. (edge.a == u && passes edge.b) || (edge.b == u && passes edge.a)) edges

-- some walk of at most so many edges leads from u to v
unfoldable pub walks_within : List Edge → ℕ → ℕ → ℕ → Bool
walks_within edges zero v u = u == v
walks_within edges (suc most) v u =
    u == v || leads_to edges (walks_within edges most v) u

-- the test holds of any two of the nodes
abbrev pub any_two : (ℕ → ℕ → Bool) → List ℕ → Bool
any_two test nodes = list_all (λ u. list_all (test u) nodes) nodes

-- any two nodes are joined by a walk of at most so many edges
abbrev pub diameter_test : ℕ → List NodeRow → Bool
diameter_test most rows = any_two (λ u v. walks_within (edges_of rows) most v u) (ids_of rows)

-- for each edge, the edges but this one put all nodes into one class
abbrev pub bridgeless_test : List NodeRow → Bool
bridgeless_test rows =
    list_all (λ edge. joins_all (without edge (edges_of rows)) (ids_of rows)) (edges_of rows)
