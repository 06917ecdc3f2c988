-- Levels from one node of a network, as a function of the identity.
use Rattle.std.proofs.Common.{◌≡◌, ◌∙◌, ℕ, ◌+◌, ◌<◌, ◌≤◌, List, [], ◌∷◌, length, Contains, sym, subst, arith}
use Rattle.std.proofs.lemmas.List.{length-map}
use Rattle.pls_configuration.specs.declared.row.Port.{Port}
use Rattle.pls_configuration.specs.declared.row.NodeRow.{NodeRow}
use Rattle.pls_configuration.specs.Configuration.{IsNetwork, ids_of}
use Rattle.pls_configuration.specs.Walk.{Adjacent, Walk, edges_of}
use Rattle.pls_graph.specs.Levels.{IsLevel}
use Rattle.pls_graph.proofs.Members.{Contains-from_map}
use Rattle.pls_facts.specs.Cycle.{AreSearched}
use Rattle.pls_facts.specs.Descent.{FallsAtSome}
use Rattle.pls_facts.proofs.Levels.{level_below, levels_searched}
use Rattle.pls_facts.proofs.Neighbours.{adjacent_known, port_leads}
use Rattle.pls_facts.proofs.Pointed.{id_of_row}

module _ (rows : List NodeRow) (net : IsNetwork rows) (root : ℕ) (level : ℕ → ℕ)
    (each : (row : NodeRow) → Contains rows row
    → IsLevel (edges_of rows) root row.id (level row.id)) where
  -- what is said of each row is said of each identity
  pub level_of : (id : ℕ) → Contains (ids_of rows) id → IsLevel (edges_of rows) root id (level id)
  level_of id in' =
      let (row, row_in, named) : (row : NodeRow) × Contains rows row × (row.id ≡ id) =
      Contains-from_map (λ (row : NodeRow). row.id) rows id in' in
      subst (λ (id : ℕ). IsLevel (edges_of rows) root id (level id)) named (each row row_in)

  -- levels are below the number of nodes
  pub below_nodes : (row : NodeRow) → Contains rows row → level row.id < length rows
  below_nodes row in' =
      let short : level row.id < length (ids_of rows) =
      level_below (edges_of rows) (ids_of rows) root level (adjacent_known rows net) level_of row.id
      (id_of_row rows row in') in
      omega (arith, short, length-map rows (λ (row : NodeRow). row.id))

  -- they are the depths of a search
  pub are_searched : AreSearched (edges_of rows) (ids_of rows) level
  are_searched =
      levels_searched (edges_of rows) (ids_of rows) root level (adjacent_known rows net) level_of

  -- each but that of the root falls at some neighbour
  pub levels_fall : FallsAtSome rows level
  levels_fall row in' some =
      let (up, step, less) : (up : ℕ) × Adjacent (edges_of rows) row.id up
      × (level row.id ≡ level up + 1) =
      are_searched.above row.id (id_of_row rows row in') some in
      let (port, has, named) : (port : Port) × Contains row.ports port × (port.nbr ≡ up) =
      port_leads rows net row in' up step in
      (port, has, subst (λ (up : ℕ). level row.id ≡ level up + 1) (sym named) less)

  -- the root is at level 0, alone
  pub root_at_0 : (row : NodeRow) → Contains rows row → row.id ≡ root → level row.id ≡ 0
  root_at_0 row in' is =
      let few : level row.id ≤ length {A = ℕ} [] = (each row in').fewest [] (sym is) in
      omega (arith, few)

  pub alone_at_0 : (row : NodeRow) → Contains rows row → level row.id ≡ 0 → row.id ≡ root
  alone_at_0 row in' none =
      by (each row in').nodes (each row in').walk ((each row in').many ∙ none)
    where
      by : (nodes : List ℕ) → Walk (edges_of rows) root nodes row.id → length nodes ≡ 0
          → row.id ≡ root
      by [] walk few = sym walk
      by (x ∷ nodes) walk few = absurd (omega (arith, few))
