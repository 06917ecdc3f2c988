-- Sums along a tree count its nodes: each node but the root adds to that of one other.
use Rattle.std.proofs.Common.{◌≡◌, ◌≢◌, ◌∙◌, ℕ, ◌+◌, ◌==◌, Bool, true, false, not, List, length, position, Contains, Some, get_or, slice_get, refl, sym, ap, subst, arith}
use Rattle.std.specs.List.{AllPairs, sum_by}
use Rattle.std.proofs.lemmas.Bool.{eqb-false, eqb-true}
use Rattle.std.proofs.lemmas.Option.{same_Some, slice_get-get_or}
use Rattle.pls_configuration.specs.declared.row.Port.{Port}
use Rattle.pls_configuration.specs.declared.row.NodeRow.{NodeRow}
use Rattle.pls_configuration.specs.Configuration.{IsNetwork}
use Rattle.pls_configuration.specs.Walk.{Adjacent, edges_of}
use Rattle.pls_graph.proofs.Joined.{Adjacent-turned}
use Rattle.pls_graph.proofs.Members.{place_from_Contains}
use Rattle.pls_graph.proofs.Placed.{place_of_port}
use Rattle.pls_facts.specs.TreeSums.{AreSummed, HaveParents, of_children}
use Rattle.pls_facts.proofs.Neighbours.{neighbour_row, port_adjacent, port_leads}
use Rattle.pls_facts.proofs.OnlyNode.{ids_ascend}
use Rattle.pls_facts.proofs.Sums.{AreApart, AreApart-from_pairs, eqb_turned, sum-add, sum-at, sum-filter, sum-one, sum-same, sum-swap, sum-when, sum-zero, when, when-none}

module _ (rows : List NodeRow) (net : IsNetwork rows) where
  -- the identities of the rows differ
  pub rows_apart : AreApart (λ row. row.id) rows
  rows_apart = AreApart-from_pairs (λ row. row.id) rows (λ i j d before within same.
      let rise = ids_ascend rows net i j d before within in omega (arith, rise, same))

  -- and so do the nodes at the ports of a row
  pub ports_apart : (row : NodeRow) → Contains rows row → AreApart (λ port. port.nbr) row.ports
  ports_apart row in' = AreApart-from_pairs (λ port. port.nbr) row.ports apart
    where
      apart : AllPairs (λ one other. one.nbr ≢ other.nbr) row.ports
      apart i j d before within same =
          let (k, at) : (k : ℕ) × (slice_get rows k ≡ Some row) = place_from_Contains rows row in' in
          let one : Port = get_or row.ports i d in
          let other : Port = get_or row.ports j d in
          let first : position (λ (port : Port). one.nbr == port.nbr) row.ports ≡ Some i =
          place_of_port rows net k row at i one (slice_get-get_or row.ports i d (omega (arith, before, within))) in
          let second : position (λ (port : Port). other.nbr == port.nbr) row.ports ≡ Some j =
          place_of_port rows net k row at j other (slice_get-get_or row.ports j d within) in
          let places : i ≡ j = same_Some i j (sym first
          ∙ ap (λ (n : ℕ). position (λ (port : Port). n == port.nbr) row.ports) same ∙ second) in
          omega (arith, places, before)

  module _ (root : NodeRow) (root_in : Contains rows root) (parent : ℕ → ℕ)
      (have : HaveParents rows root.id parent) (number : ℕ → ℕ) where
    -- what a row adds, if it is not the root's
    abbrev pub adds : NodeRow → NodeRow → ℕ
    adds to row = when (not (row.id == root.id)) (when (to.id == parent row.id) (number row.id))

    -- one port tells of each row that adds
    row_adds : (to : NodeRow) → Contains rows to → (row : NodeRow) → Contains rows row
        → sum_by (λ port. when (row.id == port.nbr)
        (when (to.id == parent row.id) (number row.id))) to.ports ≡ adds to row
    row_adds to to_in row in' = by (row.id == root.id) refl (to.id == parent row.id) refl
      where
        by : (a : Bool) → (row.id == root.id) ≡ a → (b : Bool) → (to.id == parent row.id) ≡ b
            → sum_by (λ port. when (row.id == port.nbr)
            (when (to.id == parent row.id) (number row.id))) to.ports ≡ adds to row
        by true is b child =
            sum-zero (λ port. when (row.id == port.nbr)
            (when (to.id == parent row.id) (number row.id))) to.ports
            (λ port has. when-none (row.id == port.nbr)
            (when (to.id == parent row.id) (number row.id))
            (λ at. when-none (to.id == parent row.id) (number row.id) (λ up.
            let same : row.id ≡ root.id = eqb-true row.id root.id is in
            absurd ((port_adjacent rows net to port to_in has).1
            (eqb-true to.id (parent row.id) up ∙ ap parent same ∙ have.at_root ∙ sym same
            ∙ eqb-true row.id port.nbr at)))))
            ∙ rw is refl
        by false is false child =
            sum-zero (λ port. when (row.id == port.nbr)
            (when (to.id == parent row.id) (number row.id))) to.ports
            (λ port has. when-none (row.id == port.nbr)
            (when (to.id == parent row.id) (number row.id)) (λ at. rw child refl))
            ∙ rw (is, child) refl
        by false is true child =
            let (way, way_has, up) : (port : Port) × Contains row.ports port
            × (port.nbr ≡ parent row.id) =
            have.beside row in' (eqb-false row.id root.id is) in
            let named : way.nbr ≡ to.id = up ∙ sym (eqb-true to.id (parent row.id) child) in
            let back : Adjacent (edges_of rows) to.id row.id =
            subst (λ (id : ℕ). Adjacent (edges_of rows) id row.id) named
            (Adjacent-turned (edges_of rows) row.id way.nbr
            (port_adjacent rows net row way in' way_has).0) in
            let (port, has, leads) : (port : Port) × Contains to.ports port × (port.nbr ≡ row.id) =
            port_leads rows net to to_in row.id back in
            sum-same (λ port. when (row.id == port.nbr)
            (when (to.id == parent row.id) (number row.id)))
            (λ other. when (other.nbr == port.nbr) (number row.id)) to.ports
            (λ other other_has. rw (child, leads)
            (ap (λ (b : Bool). when b (number row.id)) (eqb_turned row.id other.nbr)))
            ∙ sum-at (λ port. port.nbr) (λ other. number row.id) to.ports (ports_apart to to_in) port
            has
            ∙ rw (is, child) refl

    -- what the ports of a row tell is what the rows add
    pub children_add : (to : NodeRow) → Contains rows to
        → of_children parent number to ≡ sum_by (adds to) rows
    children_add to to_in =
        sum-filter (λ port. to.id == parent port.nbr) (λ port. number port.nbr) to.ports
        ∙ sum-same (λ port. when (to.id == parent port.nbr) (number port.nbr))
        (λ port. sum_by (λ row. when (row.id == port.nbr)
        (when (to.id == parent row.id) (number row.id))) rows) to.ports spread
        ∙ sum-swap (λ port row. when (row.id == port.nbr)
        (when (to.id == parent row.id) (number row.id))) to.ports rows
        ∙ sum-same (λ row. sum_by (λ port. when (row.id == port.nbr)
        (when (to.id == parent row.id) (number row.id))) to.ports) (adds to) rows
        (row_adds to to_in)
      where
        spread : (port : Port) → Contains to.ports port
            → when (to.id == parent port.nbr) (number port.nbr)
            ≡ sum_by (λ row. when (row.id == port.nbr)
            (when (to.id == parent row.id) (number row.id))) rows
        spread port has =
            let (other, other_in, is) : (other : NodeRow) × Contains rows other
            × (other.id ≡ port.nbr) =
            neighbour_row rows net to to_in port has in
            subst (λ (id : ℕ). when (to.id == parent id) (number id)
            ≡ sum_by (λ row. when (row.id == id)
            (when (to.id == parent row.id) (number row.id))) rows) is
            (sym (sum-at (λ row. row.id) (λ row. when (to.id == parent row.id) (number row.id)) rows
            rows_apart other other_in))

    -- numbers that are summed along the tree count the nodes at its root
    pub sums_count : AreSummed rows parent number → number root.id ≡ length rows
    sums_count summed =
        let each = sum-same (λ row. number row.id) (λ row. 1 + sum_by (adds row) rows) rows
        (λ row in'. summed row in' ∙ ap (λ (n : ℕ). 1 + n) (children_add row in')) in
        let both = sum-add (λ (row : NodeRow). 1) (λ row. sum_by (adds row) rows) rows in
        let ones = sum-one rows in
        let turned = sum-swap adds rows rows in
        let once = sum-same (λ row. sum_by (λ to. adds to row) rows)
        (λ row. when (not (row.id == root.id)) (number row.id)) rows adds_once in
        let split = sum-same (λ row. number row.id)
        (λ row. when (row.id == root.id) (number row.id)
        + when (not (row.id == root.id)) (number row.id)) rows
        (λ row in'. parts (row.id == root.id) (number row.id)) in
        let two = sum-add (λ row. when (row.id == root.id) (number row.id))
        (λ row. when (not (row.id == root.id)) (number row.id)) rows in
        let at = sum-at (λ row. row.id) (λ row. number row.id) rows rows_apart root root_in in
        omega (arith, each, both, ones, turned, once, split, two, at)
      where
        parts : (b : Bool) (n : ℕ) → n ≡ when b n + when (not b) n
        parts true n = omega arith
        parts false n = omega arith

        adds_once : (row : NodeRow) → Contains rows row
            → sum_by (λ to. adds to row) rows ≡ when (not (row.id == root.id)) (number row.id)
        adds_once row in' =
            sum-when (not (row.id == root.id))
            (λ to. when (to.id == parent row.id) (number row.id)) rows
            ∙ by (row.id == root.id) refl
          where
            by : (b : Bool) → (row.id == root.id) ≡ b
                → when (not b) (sum_by (λ to. when (to.id == parent row.id) (number row.id)) rows)
                ≡ when (not b) (number row.id)
            by true is = refl
            by false is =
                let (way, way_has, up) : (port : Port) × Contains row.ports port
                × (port.nbr ≡ parent row.id) =
                have.beside row in' (eqb-false row.id root.id is) in
                let (other, other_in, named) : (other : NodeRow) × Contains rows other
                × (other.id ≡ way.nbr) =
                neighbour_row rows net row in' way way_has in
                subst (λ (id : ℕ). sum_by (λ to. when (to.id == id) (number row.id)) rows
                ≡ number row.id) (named ∙ up)
                (sum-at (λ to. to.id) (λ to. number row.id) rows rows_apart other other_in)
