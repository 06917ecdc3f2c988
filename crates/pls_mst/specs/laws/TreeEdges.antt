-- Whether the edge at a port is outside of the tree, as the node tells it: 0 or 1.
use Rattle.std.proofs.Common.{◌≡◌, ℕ, inl, inr, Bool, List, Some, subst, slice_get, Contains}
use Rattle.std.proofs.lemmas.Bool.{cases_Bool, cond-true, cond-false}
use Rattle.pls_configuration.specs.declared.row.Port.{Port}
use Rattle.pls_configuration.specs.declared.row.NodeRow.{NodeRow}
use Rattle.pls_configuration.specs.Configuration.{IsNetwork}
use Rattle.pls_configuration.specs.Walk.{Edge, Joins}
use Rattle.pls_scheme.specs.Reading.{port_where}
use Rattle.pls_facts.specs.SpanningTree.{edge_at, pointed_edges}
use Rattle.pls_facts.proofs.PointedEdges.{Joins-edge_at}
use Rattle.pls_facts.proofs.PortEdges.{IsAtPort}
use Rattle.pls_levels.specs.Rules.{is_in_tree}
use Rattle.pls_levels.specs.laws.InTree.{in_told, tells_in as tells_true}
use Rattle.pls_levels.specs.laws.Placed.{IsPlaced, follows, named, parent_of_root}
use Rattle.pls_mst.specs.Labels.{MstLabel}
use Rattle.pls_mst.specs.laws.Fragments.{told_outside}

module _ (rows : List NodeRow) (net : IsNetwork rows) (say : ℕ → MstLabel)
    (placed : (row : NodeRow) → Contains rows row → IsPlaced say row) where
  abbrev told : NodeRow → ℕ → Port → Bool
  told row number port = is_in_tree row.state.up (say row.id) number (port_where say port)

  abbrev own : ℕ → ℕ
  own id = (say id).own

  abbrev parent : ℕ → ℕ
  parent id = (say id).parent

  -- where the edge at a port is in the tree, the node tells so
  pub tells_in : (edge : Edge) (u v : ℕ) (way : IsAtPort rows edge u v)
      → Contains (pointed_edges rows) edge → told_outside say way.row way.number way.port ≡ 0
  tells_in edge u v way in' =
      let joins : Joins edge way.row.id way.port.nbr =
      subst (λ (edge : Edge). Joins edge way.row.id way.port.nbr) way.is
      (Joins-edge_at way.row way.port) in
      cond-true (told way.row way.number way.port) 0 1
      (tells_true rows net own parent (follows rows net say placed) way.place way.number way.row
      way.port way.at way.has (edge, in', joins))

  -- where it is not, the node tells so too
  pub tells_out : (i number : ℕ) (row : NodeRow) (port : Port) → slice_get rows i ≡ Some row
      → slice_get row.ports number ≡ Some port
      → (Contains (pointed_edges rows) (edge_at row port) → ⊥)
      → told_outside say row number port ≡ 1
  tells_out i number row port at has out = elim (cases_Bool (told row number port)) [
    | inr fails ↦ cond-false (told row number port) 0 1 fails
    | inl holds ↦ absurd (out (in_told rows net own parent (follows rows net say placed)
        (named rows net say placed) (parent_of_root rows net say placed) i number row port at has
        holds))
  ]
