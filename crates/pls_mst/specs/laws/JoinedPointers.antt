-- Pointers along edges that join a fragment: each node of it points at another of them, or has the
-- fragment's name.
use Rattle.std.proofs.Common.{◌≡◌, ◌∙◌, ℕ, ◌+◌, ◌⊎◌, inl, inr, List, Option, Some, None, refl, sym, ap, subst, arith, option_map, option_and_then, Contains, slice_get}
use Rattle.std.proofs.lemmas.Option.{option_and_then_some, same_Some}
use Rattle.pls_configuration.specs.declared.row.Port.{Port}
use Rattle.pls_configuration.specs.declared.row.NodeRow.{NodeRow}
use Rattle.pls_configuration.specs.Configuration.{IsNetwork, ids_of, row_of}
use Rattle.pls_configuration.specs.Walk.{Edge, Adjacent, Joins}
use Rattle.pls_graph.proofs.Finds.{from_option_map}
use Rattle.pls_graph.proofs.Joined.{AreJoined-adjacent}
use Rattle.pls_graph.proofs.Placed.{row_place}
use Rattle.pls_facts.specs.Pointer.{pointed_node, pointed_port, Falls}
use Rattle.pls_facts.specs.SpanningTree.{edge_at, pointed_edge, pointed_edges}
use Rattle.pls_facts.proofs.Decided.{cases_Edge}
use Rattle.pls_facts.proofs.Distinct.{decide_Contains}
use Rattle.pls_facts.proofs.Filtered.{Contains-from_filter_map}
use Rattle.pls_facts.proofs.Neighbours.{neighbour_row}
use Rattle.pls_facts.proofs.Pointed.{id_of_row, row_of_id}
use Rattle.pls_facts.proofs.PointedEdges.{Joins-edge_at, ends_of_pair}
use Rattle.pls_facts.proofs.Tops.{top, top-depth, top-joined, top-none}
use Rattle.pls_boruvka.specs.Fragments.{AreFragments}
use Rattle.pls_levels.specs.laws.InTree.{pointed_has}

-- the node, where something is decided to hold
abbrev only : {P : Type 0} → P ⊎ (P → ⊥) → ℕ → Option ℕ
only (inl holds) id = Some id
only (inr fails) id = None

only-holds : {P : Type 0} (decided : P ⊎ (P → ⊥)) (id : ℕ) → P → only decided id ≡ Some id
only-holds (inl holds) id is = refl
only-holds (inr fails) id is = absurd (fails is)

only-fails : {P : Type 0} (decided : P ⊎ (P → ⊥)) (id : ℕ) → (P → ⊥) → only decided id ≡ None
only-fails (inl holds) id none = absurd (none holds)
only-fails (inr fails) id none = refl

only-held : {P : Type 0} (decided : P ⊎ (P → ⊥)) (id v : ℕ) → only decided id ≡ Some v → P
only-held (inl holds) id v e = holds
only-held (inr fails) id v e = absurd (cc)

only-some : {P : Type 0} (decided : P ⊎ (P → ⊥)) (id v : ℕ) → only decided id ≡ Some v → id ≡ v
only-some (inl holds) id v e = same_Some id v e
only-some (inr fails) id v e = absurd (cc)

module _ (rows : List NodeRow) (net : IsNetwork rows) (depth : ℕ → ℕ) (falls : Falls rows depth)
  where
    abbrev tree : List Edge
    tree = pointed_edges rows

    module _ (joined : List Edge)
        (below : (edge : Edge) → Contains joined edge → Contains tree edge) where
      -- the node that a row points at, where that pointer's edge is one of those that join
      abbrev kept : NodeRow → Option Port → Option ℕ
      kept row pointed = option_and_then (λ port.
          only (decide_Contains cases_Edge joined (edge_at row port)) port.nbr) pointed

      -- and so for the row of an identity
      abbrev pub up : ℕ → Option ℕ
      up id = option_and_then (λ row. kept row (pointed_port row)) (row_of rows id)

      up-row : (row : NodeRow) → Contains rows row → up row.id ≡ kept row (pointed_port row)
      up-row row in' = ap (λ (found : Option NodeRow).
          option_and_then (λ row. kept row (pointed_port row)) found) (row_of_id rows net row in')

      up-kept : (row : NodeRow) (port : Port) → Contains rows row → pointed_port row ≡ Some port
          → Contains joined (edge_at row port) → up row.id ≡ Some port.nbr
      up-kept row port in' pointed joins = up-row row in' ∙ ap (kept row) pointed
          ∙ only-holds (decide_Contains cases_Edge joined (edge_at row port)) port.nbr joins

      -- it points along one of the edges that join
      pub up-joins : (u v : ℕ) → up u ≡ Some v → Adjacent joined u v
      up-joins u v points =
          option_and_then_some (λ row. kept row (pointed_port row)) (row_of rows u) v points
          (λ row found keeps. option_and_then_some (λ port.
          only (decide_Contains cases_Edge joined (edge_at row port)) port.nbr)
          (pointed_port row) v keeps
          (λ port pointed is.
          let (place, at, named) : (place : ℕ) × (slice_get rows place ≡ Some row)
          × (u ≡ row.id) = row_place rows net u row found in (
            edge_at row port,
            only-held (decide_Contains cases_Edge joined (edge_at row port)) port.nbr v is,
            subst (λ (u : ℕ). Joins (edge_at row port) u v) (sym named)
                (subst (Joins (edge_at row port) row.id)
                (only-some (decide_Contains cases_Edge joined (edge_at row port)) port.nbr v is)
                (Joins-edge_at row port)),
          )))

      -- it is one of the pointers
      up-next : (u v : ℕ) → up u ≡ Some v → pointed_node rows u ≡ Some v
      up-next u v points =
          option_and_then_some (λ row. kept row (pointed_port row)) (row_of rows u) v points
          (λ row found keeps. option_and_then_some (λ port.
          only (decide_Contains cases_Edge joined (edge_at row port)) port.nbr)
          (pointed_port row) v keeps
          (λ port pointed is.
          ap (λ (found : Option NodeRow). option_map (λ (port : Port). port.nbr)
          (option_and_then pointed_port found)) found
          ∙ ap (option_map (λ (port : Port). port.nbr)) pointed
          ∙ ap (λ (id : ℕ). Some id)
          (only-some (decide_Contains cases_Edge joined (edge_at row port)) port.nbr v is)))

      pub up-falls : (u v : ℕ) → up u ≡ Some v → depth u ≡ depth v + 1
      up-falls u v points = falls u v (up-next u v points)

      -- of two adjacent nodes one points at the other
      pub up-adjacent : (u v : ℕ) → Adjacent joined u v → (up u ≡ Some v) ⊎ (up v ≡ Some u)
      up-adjacent u v (edge, in', joins) =
          let (row, row_in, gives) : (row : NodeRow) × Contains rows row
          × (pointed_edge row ≡ Some edge) =
          Contains-from_filter_map pointed_edge rows edge (below edge in') in
          let (port, pointed, is) : (port : Port) × (pointed_port row ≡ Some port)
          × (edge_at row port ≡ edge) =
          from_option_map (edge_at row) (pointed_port row) edge gives in
          let on : up row.id ≡ Some port.nbr =
          up-kept row port row_in pointed (subst (Contains joined) (sym is) in') in
          elim (ends_of_pair row.id port.nbr u v
          (subst (λ (edge : Edge). Joins edge u v) (sym is) joins)) [
            | inl ends ↦ inl (rw (sym ends.0, sym ends.1) on)
            | inr ends ↦ inr (rw (sym ends.0, sym ends.1) on)
          ]

      module _ (fragment : ℕ → ℕ) (are : AreFragments joined (ids_of rows) depth fragment) where
        -- where no joining pointer leads on, a node has its fragment's name
        named_itself : (u : ℕ) → Contains (ids_of rows) u → up u ≡ None → fragment u ≡ u
        named_itself u in' none =
            let same : top up depth up-falls u ≡ top up depth up-falls (fragment u) =
            top-joined up depth up-falls joined up-adjacent u (fragment u) (are.holds u in') in
            let here : top up depth up-falls (fragment u) ≡ u =
            sym same ∙ top-none up depth up-falls u none in
            elim (top-depth up depth up-falls (fragment u)) [
              | inl own ↦ sym own ∙ here
              | inr less ↦ elim (are.least u in') [
                | inl same ↦ same
                | inr lower ↦ let e = ap depth here in absurd (omega (arith, less, lower))
              ]
            ]

        -- else the node that it points at is of its fragment
        pub points_inside : (row : NodeRow) → Contains rows row → (fragment row.id ≡ row.id)
            ⊎ ((port : Port) × (pointed_port row ≡ Some port)
            × (fragment row.id ≡ fragment port.nbr))
        points_inside row in' = by (pointed_port row) refl
          where
            by : (o : Option Port) → pointed_port row ≡ o → (fragment row.id ≡ row.id)
                ⊎ ((port : Port) × (pointed_port row ≡ Some port)
                × (fragment row.id ≡ fragment port.nbr))
            by None e = inl (named_itself row.id (id_of_row rows row in')
                (up-row row in' ∙ ap (kept row) e))
            by (Some port) e =
                elim (decide_Contains cases_Edge joined (edge_at row port)) [
                  | inr out ↦ inl (named_itself row.id (id_of_row rows row in')
                      (up-row row in' ∙ ap (kept row) e
                      ∙ only-fails (decide_Contains cases_Edge joined (edge_at row port)) port.nbr
                      out))
                  | inl joins ↦
                      let (other, other_in, named) : (other : NodeRow) × Contains rows other
                      × (other.id ≡ port.nbr) =
                      neighbour_row rows net row in' port (pointed_has row port e) in
                      inr (
                        port,
                        e,
                        are.one row.id port.nbr (id_of_row rows row in')
                            (subst (Contains (ids_of rows)) named (id_of_row rows other other_in))
                            (AreJoined-adjacent joined row.id port.nbr
                            (edge_at row port, joins, Joins-edge_at row port)),
                      )
                ]
