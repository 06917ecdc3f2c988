-- Why the rules hold of marked labels: the next node on the path to a centroid is in the same
-- piece; and where the ends of an edge outside of the tree are in one piece for the last time, its
-- centroid lies on the path between them, along which no edge is heavier.
use Rattle.std.proofs.Common.{◌≡◌, ◌∙◌, ℕ, ◌⊎◌, inl, inr, true, false, List, Some, sym, ap, subst, arith, slice_get, Contains}
use Rattle.std.proofs.lemmas.Bool.{true≢false}
use Rattle.pls_configuration.specs.declared.row.Port.{Port}
use Rattle.pls_configuration.specs.declared.row.NodeRow.{NodeRow}
use Rattle.pls_configuration.specs.Configuration.{IsNetwork, ids_of}
use Rattle.pls_configuration.specs.Walk.{Edge, Adjacent, AreJoined, Joins, edges_of}
use Rattle.pls_graph.proofs.Joined.{AreJoined-adjacent, AreJoined-turned}
use Rattle.pls_graph.proofs.Members.{Contains-from_place, place_from_Contains}
use Rattle.pls_facts.specs.Lightest.{IsLightest}
use Rattle.pls_facts.specs.SpanningTree.{IsTree, edge_at, pointed_edges}
use Rattle.pls_facts.specs.Weight.{edge_weight}
use Rattle.pls_facts.proofs.Chosen.{OthersAreHeavy-lightest}
use Rattle.pls_facts.proofs.CycleRule.{JoinsLightly-heavy, no_heavier}
use Rattle.pls_facts.proofs.Neighbours.{neighbour_row, port_leads}
use Rattle.pls_facts.proofs.Pointed.{id_of_row}
use Rattle.pls_facts.proofs.PointedEdges.{Joins-edge_at, edge_at_listed, pointed_among}
use Rattle.pls_facts.proofs.PortEdges.{IsGraph-network}
use Rattle.pls_facts.proofs.Weights.{port_weighs}
use Rattle.pls_centroid.specs.Levels.{AreCentroidLevels, IsCentroidLevelOf}
use Rattle.pls_centroid.specs.declared.level.CentroidLevel.{CentroidLevel}
use Rattle.pls_levels.specs.Making.{IsRightHead}
use Rattle.pls_levels.specs.laws.InTree.{tells_in}
use Rattle.pls_levels.specs.laws.Placed.{IsPlaced, follows}
use Rattle.pls_levels.specs.laws.RightHeads.{one_root, placed_right}
use Rattle.pls_centroid.proofs.Lightly.{MeetLightly, meet_lightly}
use Rattle.pls_centroid.proofs.Mates.{IsStepOn, at-among, edges_at, goes_as_far, level-at, step_on}
use Rattle.pls_pathmax.specs.Labels.{PathMaxLabel}
use Rattle.pls_pathmax.specs.PathMax.{PathMaxSays}
use Rattle.pls_pathmax.specs.laws.Kept.{KeepsRules, LeadsOn, Meets, said_in}

module _ (rows : List NodeRow) (net : IsNetwork rows) (is_tree : IsTree rows)
    (say : ℕ → PathMaxLabel)
    (right : (row : NodeRow) → Contains rows row → PathMaxSays rows row (say row.id)) where
  abbrev tree : List Edge
  tree = pointed_edges rows

  abbrev own : ℕ → ℕ
  own id = (say id).own

  abbrev parent : ℕ → ℕ
  parent id = (say id).parent

  heads : (row : NodeRow) → Contains rows row → IsRightHead rows row (say row.id)
  heads row in' = (right row in').head

  placed : (row : NodeRow) → Contains rows row → IsPlaced say row
  placed = placed_right rows net is_tree say heads

  -- the node at a port
  beside : (row : NodeRow) (port : Port) → Contains rows row → Contains row.ports port
      → (other : NodeRow) × Contains rows other × (other.id ≡ port.nbr)
  beside row port in' has = neighbour_row rows net row in' port has

  -- where the tree joins the nodes of a port, they tell so
  told : (row : NodeRow) (place : ℕ) (port : Port) → Contains rows row
      → slice_get row.ports place ≡ Some port → Adjacent tree row.id port.nbr
      → said_in say row place port ≡ true
  told row place port in' at adjacent =
      let (i, stands) : (i : ℕ) × (slice_get rows i ≡ Some row) =
      place_from_Contains rows row in' in
      tells_in rows net own parent (follows rows net say placed) i place row port stands at adjacent

  -- the levels of a neighbour
  levels_beside : (row : NodeRow) (port : Port) → Contains rows row → Contains row.ports port
      → AreCentroidLevels rows port.nbr (say port.nbr).levels
  levels_beside row port in' has =
      let (other, other_in, is) : (other : NodeRow) × Contains rows other
      × (other.id ≡ port.nbr) = beside row port in' has in
      subst (λ (id : ℕ). AreCentroidLevels rows id (say id).levels) is (right other other_in).levels

  -- a level leads on at the next node of the path to the centroid
  leads_on : (row : NodeRow) (number : ℕ) (mine : CentroidLevel) → Contains rows row
      → slice_get (say row.id).levels number ≡ Some mine
      → IsStepOn rows (edges_at rows tree number) row.id mine → LeadsOn say row number mine
  leads_on row number mine in' at step =
      let (edge, edge_in, joins) : Adjacent (edges_at rows tree number) row.id step.next =
      step.adjacent in
      let within : Contains tree edge = at-among rows tree number edge edge_in in
      let (port, has, is) : (port : Port) × Contains row.ports port × (port.nbr ≡ step.next) =
      port_leads rows net row in' step.next
      (edge, pointed_among rows net edge within, joins) in
      let (place, stands) : (place : ℕ) × (slice_get row.ports place ≡ Some port) =
      place_from_Contains row.ports port has in
      let there : AreJoined (edges_at rows tree number) port.nbr row.id =
      subst (λ (id : ℕ). AreJoined (edges_at rows tree number) id row.id) (sym is)
      (AreJoined-turned (edges_at rows tree number) row.id step.next
      (AreJoined-adjacent (edges_at rows tree number) row.id step.next (edge, edge_in, joins))) in
      let (theirs, also) : (theirs : CentroidLevel)
      × (slice_get (say port.nbr).levels number ≡ Some theirs) =
      goes_as_far rows tree row.id port.nbr (say row.id).levels (say port.nbr).levels
      (right row in').levels (levels_beside row port in' has) number mine at there in
      let level : IsCentroidLevelOf rows (edges_at rows tree number) step.next theirs =
      subst (λ (id : ℕ). IsCentroidLevelOf rows (edges_at rows tree number) id theirs) is
      (level-at rows tree port.nbr (say port.nbr).levels (levels_beside row port in' has) number
      theirs also) in
      let leads = step.leads theirs level in
      let light = step.light in
      let weighs : edge_weight rows row.id step.next ≡ port.weight =
      ap (edge_weight rows row.id) (sym is) ∙ port_weighs rows net row port in' has in
      record {
        place = place;
        port = port;
        theirs = theirs;
        at = stands;
        within = told row place port in' stands
            (subst (Adjacent tree row.id) (sym is) (edge, within, joins));
        has = also;
        same = leads.0;
        nearer = leads.1;
        light = leads.2;
        also = omega (arith, light, weighs);
      }

  onward : (row : NodeRow) (number : ℕ) (mine : CentroidLevel) → Contains rows row
      → slice_get (say row.id).levels number ≡ Some mine
      → ((mine.hops ≡ 0) × (mine.centroid ≡ own row.id)) ⊎ LeadsOn say row number mine
  onward row number mine in' at =
      elim (step_on rows net is_tree (edges_at rows tree number)
      (at-among rows tree number) row.id mine (level-at rows tree row.id (say row.id).levels
      (right row in').levels number mine at)) [
        | inl here ↦ inl (here.0, here.1 ∙ sym (right row in').head.own)
        | inr step ↦ inr (leads_on row number mine in' at step)
      ]

  -- the nodes of a port outside of the tree meet lightly
  pub meets : IsLightest (edges_of rows) tree (ids_of rows) → (row : NodeRow) (place : ℕ)
      (port : Port) → Contains rows row → slice_get row.ports place ≡ Some port
      → said_in say row place port ≡ false → Meets say row port
  meets lightest row place port in' at out =
      let found : MeetLightly port.weight (say row.id).levels (say port.nbr).levels =
      meet_lightly rows net is_tree port.weight tree (λ edge in'. in') row.id port.nbr
      (say row.id).levels (say port.nbr).levels (right row in').levels
      (levels_beside row port in' has) (is_tree.spanning.joined row.id port.nbr
      (id_of_row rows row in') known) (by (Joins-edge_at row port) lightly) in
      record {
        number = found.number;
        mine = found.mine;
        theirs = found.theirs;
        at = found.at;
        there = found.there;
        same = found.same;
        light = found.light;
        also = found.also;
      }
    where
      has : Contains row.ports port
      has = Contains-from_place row.ports place port at

      known : Contains (ids_of rows) port.nbr
      known =
          let (other, other_in, is) : (other : NodeRow) × Contains rows other
          × (other.id ≡ port.nbr) = beside row port in' has in
          subst (Contains (ids_of rows)) is (id_of_row rows other other_in)

      lightly : AreJoined (no_heavier port.weight tree) (edge_at row port).a (edge_at row port).b
      lightly = JoinsLightly-heavy (edges_of rows) tree (ids_of rows) (IsGraph-network rows net)
          is_tree.spanning (OthersAreHeavy-lightest (edges_of rows) tree (ids_of rows)
          is_tree.spanning lightest) (edge_at row port)
          (edge_at_listed rows net row port in' has)
          (λ within. true≢false (sym (told row place port in' at
          (edge_at row port, within, Joins-edge_at row port)) ∙ out))

      by : Joins (edge_at row port) row.id port.nbr
          → AreJoined (no_heavier port.weight tree) (edge_at row port).a (edge_at row port).b
          → AreJoined (no_heavier port.weight tree) row.id port.nbr
      by (inl ends) joined = subst (AreJoined (no_heavier port.weight tree) row.id) ends.1
          (subst (λ (id : ℕ). AreJoined (no_heavier port.weight tree) id (edge_at row port).b)
          ends.0 joined)
      by (inr ends) joined = AreJoined-turned (no_heavier port.weight tree) port.nbr row.id
          (subst (AreJoined (no_heavier port.weight tree) port.nbr) ends.1
          (subst (λ (id : ℕ). AreJoined (no_heavier port.weight tree) id (edge_at row port).b)
          ends.0 joined))

  -- so the rules hold, where the nodes of each port outside of the tree meet lightly
  pub KeepsRules-meeting : ((row : NodeRow) (place : ℕ) (port : Port) → Contains rows row
      → slice_get row.ports place ≡ Some port → said_in say row place port ≡ false
      → Meets say row port)
      → (row : NodeRow) → Contains rows row → KeepsRules say row
  KeepsRules-meeting meeting row in' = record {
    placed = placed row in';
    alike = λ port has. one_root rows net is_tree say heads row port in' has;
    onward = λ number mine at. onward row number mine in' at;
    outside = λ place port at out. meeting row place port in' at out;
  }
