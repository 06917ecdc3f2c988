-- Why accepted labels show a spanning tree of least weight: the pointers make a tree; on each level
-- a walk in the tree leads from a node to its centroid, along edges that are no heavier than the
-- greatest weight there; so the ends of each other edge are joined, by way of a centroid, by tree
-- edges that are no heavier than it; and then, by the cycle rule, no spanning tree is lighter.
use Rattle.std.proofs.Common.{◌≡◌, ◌∙◌, ℕ, zero, suc, ◌≤◌, inl, inr, nat_le, true, List, [], Some, refl, sym, ap, subst, arith, slice_get, Contains}
use Rattle.std.proofs.lemmas.Bool.{cases_Bool, le-leb}
use Rattle.pls_configuration.specs.declared.row.Port.{Port}
use Rattle.pls_configuration.specs.declared.row.NodeRow.{NodeRow}
use Rattle.pls_configuration.specs.Configuration.{IsNetwork, ids_of}
use Rattle.pls_configuration.specs.Walk.{Edge, Adjacent, AreJoined, IsConnected, edges_of}
use Rattle.pls_graph.proofs.Joined.{AreJoined-adjacent, AreJoined-through, AreJoined-turned}
use Rattle.pls_graph.proofs.Members.{Contains-filter, Contains-from_place, place_from_Contains}
use Rattle.pls_facts.specs.SpanningTree.{IsTree, edge_at, pointed_edges}
use Rattle.pls_facts.specs.Lightest.{IsLightest}
use Rattle.pls_facts.proofs.CycleRule.{IsLightest-lightly, JoinsLightly, no_heavier}
use Rattle.pls_facts.proofs.Neighbours.{neighbour_row}
use Rattle.pls_facts.proofs.PointedEdges.{Joins-edge_at}
use Rattle.pls_facts.proofs.PortEdges.{IsAtPort, IsGraph-network, ports_of_edge}
use Rattle.pls_centroid.specs.declared.level.CentroidLevel.{CentroidLevel}
use Rattle.pls_levels.specs.laws.InTree.{in_told}
use Rattle.pls_levels.specs.laws.Placed.{IsPlaced, follows, named, parent_of_root, tree_of_placed}
use Rattle.pls_pathmax.specs.Labels.{PathMaxLabel}
use Rattle.pls_pathmax.specs.laws.Kept.{KeepsRules, LeadsOn, Meets, said_in}

module _ (rows : List NodeRow) (net : IsNetwork rows) (connected : IsConnected rows)
    (say : ℕ → PathMaxLabel)
    (keeps : (row : NodeRow) → Contains rows row → KeepsRules say row) where
  abbrev tree : List Edge
  tree = pointed_edges rows

  abbrev own : ℕ → ℕ
  own id = (say id).own

  abbrev parent : ℕ → ℕ
  parent id = (say id).parent

  placed : (row : NodeRow) → Contains rows row → IsPlaced say row
  placed row in' = (keeps row in').placed

  -- ---- first: the pointers make a tree

  pub pointers_make_a_tree : IsTree rows
  pointers_make_a_tree = tree_of_placed rows net say placed connected
      (λ row port in' has. (keeps row in').alike port has)

  -- ---- second: a port that is told to be in the tree is

  told_is_in : (row : NodeRow) (place : ℕ) (port : Port) → Contains rows row
      → slice_get row.ports place ≡ Some port → said_in say row place port ≡ true
      → Contains tree (edge_at row port)
  told_is_in row place port in' at told =
      let (i, stands) : (i : ℕ) × (slice_get rows i ≡ Some row) =
      place_from_Contains rows row in' in
      in_told rows net own parent (follows rows net say placed) (named rows net say placed)
      (parent_of_root rows net say placed) i place row port stands at told

  -- ---- third: walks lead to the centroids

  module _ (most : ℕ) where
    abbrev light : List Edge
    light = no_heavier most tree

    reaches : (hops : ℕ) (row : NodeRow) → Contains rows row → (number : ℕ) (level : CentroidLevel)
        → slice_get (say row.id).levels number ≡ Some level → level.hops ≡ hops
        → level.greatest ≤ most → AreJoined light row.id level.centroid
    reaches zero row in' number level at far few = elim ((keeps row in').onward number level at) [
      | inl here ↦ ([], sym (here.1 ∙ (placed row in').own))
      | inr on ↦ let nearer = on.nearer in absurd (omega (arith, far, nearer))
    ]
    reaches (suc hops) row in' number level at far few =
        elim ((keeps row in').onward number level at) [
          | inl here ↦ absurd (omega (arith, far, here.0))
          | inr on ↦ by on (reaches hops)
        ]
      where
        by : LeadsOn say row number level
            → ((row : NodeRow) → Contains rows row → (number : ℕ) (level : CentroidLevel)
            → slice_get (say row.id).levels number ≡ Some level → level.hops ≡ hops
            → level.greatest ≤ most → AreJoined light row.id level.centroid)
            → AreJoined light row.id level.centroid
        by on before =
            let (other, other_in, is) : (other : NodeRow) × Contains rows other
            × (other.id ≡ on.port.nbr) = neighbour_row rows net row in' on.port
            (Contains-from_place row.ports on.place on.port on.at) in
            let nearer = on.nearer in
            let lighter = on.light in
            let also = on.also in
            let rest : AreJoined light other.id on.theirs.centroid =
            before other other_in number on.theirs
            (ap (λ (id : ℕ). slice_get (say id).levels number) is ∙ on.has)
            (omega (arith, far, nearer)) (omega (arith, few, lighter)) in
            let step : Adjacent light row.id on.port.nbr = (
              edge_at row on.port,
              Contains-filter (λ (edge : Edge). nat_le edge.weight most) tree
                  (edge_at row on.port) (told_is_in row on.place on.port in' on.at on.within)
                  (le-leb on.port.weight most (omega (arith, also, few))),
              Joins-edge_at row on.port,
            ) in
            AreJoined-through light row.id on.port.nbr level.centroid
            (AreJoined-adjacent light row.id on.port.nbr step)
            (subst (AreJoined light on.port.nbr) on.same
            (subst (λ (id : ℕ). AreJoined light id on.theirs.centroid) is rest))

  -- ---- fourth: other edges are heavy, by way of a centroid

  heavy_at : (edge : Edge) → IsAtPort rows edge edge.a edge.b → (Contains tree edge → ⊥)
      → AreJoined (no_heavier edge.weight tree) edge.a edge.b
  heavy_at edge way outside =
      elim (cases_Bool (said_in say way.row way.number way.port)) [
        | inl told ↦ absurd (outside (subst (Contains tree) way.is
            (told_is_in way.row way.number way.port row_in way.has told)))
        | inr out ↦ by ((keeps way.row row_in).outside way.number way.port way.has out)
      ]
    where
      row_in : Contains rows way.row
      row_in = Contains-from_place rows way.place way.row way.at

      by : Meets say way.row way.port → AreJoined (no_heavier edge.weight tree) edge.a edge.b
      by meets =
          let light : List Edge = no_heavier edge.weight tree in
          let weighs : way.port.weight ≡ edge.weight =
          ap (λ (edge : Edge). edge.weight) way.is in
          let (other, other_in, is) : (other : NodeRow) × Contains rows other
          × (other.id ≡ way.port.nbr) = neighbour_row rows net way.row row_in way.port
          (Contains-from_place way.row.ports way.number way.port way.has) in
          let here = meets.light in
          let there = meets.also in
          let mine : AreJoined light way.row.id meets.mine.centroid =
          reaches edge.weight meets.mine.hops way.row row_in meets.number meets.mine meets.at refl
          (omega (arith, here, weighs)) in
          let theirs : AreJoined light other.id meets.theirs.centroid =
          reaches edge.weight meets.theirs.hops other other_in meets.number meets.theirs
          (ap (λ (id : ℕ). slice_get (say id).levels meets.number) is ∙ meets.there) refl
          (omega (arith, there, weighs)) in
          let across : AreJoined light way.row.id other.id =
          AreJoined-through light way.row.id meets.mine.centroid other.id mine
          (subst (λ (c : ℕ). AreJoined light c other.id) (sym meets.same)
          (AreJoined-turned light other.id meets.theirs.centroid theirs)) in
          subst (λ (u : ℕ). AreJoined light u edge.b) way.owner
          (subst (AreJoined light way.row.id) (is ∙ way.names) across)

  others_join_lightly : JoinsLightly (edges_of rows) tree
  others_join_lightly edge in' outside =
      heavy_at edge (ports_of_edge rows net edge in').0 outside

  -- ---- fifth: no spanning tree is lighter

  pub no_tree_is_lighter : IsLightest (edges_of rows) tree (ids_of rows)
  no_tree_is_lighter = IsLightest-lightly (edges_of rows) tree (ids_of rows)
      (IsGraph-network rows net) pointers_make_a_tree.spanning others_join_lightly
