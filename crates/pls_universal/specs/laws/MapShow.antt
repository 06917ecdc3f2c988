-- Where the rules hold at all nodes of a connected network, each map is that of the network.
use Rattle.std.proofs.Common.{◌≡◌, ◌∙◌, ℕ, suc, ◌<◌, ◌==◌, inl, inr, Bool, true, false, List, [], ◌∷◌, map, Contains, Option, Some, None, slice_get, refl, sym, ap, subst, arith}
use Rattle.std.specs.Option.{option_map_or}
use Rattle.std.proofs.lemmas.Bool.{eqb-true}
use Rattle.std.proofs.lemmas.Option.{same_Some}
use Rattle.pls_configuration.specs.declared.row.Port.{Port}
use Rattle.pls_configuration.specs.declared.row.State.{State}
use Rattle.pls_configuration.specs.declared.row.NodeRow.{NodeRow}
use Rattle.pls_configuration.specs.Configuration.{IsNetwork, ids_of, row_of}
use Rattle.pls_configuration.specs.Walk.{Adjacent, IsConnected, edges_of}
use Rattle.pls_graph.proofs.Adjacent.{Names-Adjacent}
use Rattle.pls_graph.proofs.Finds.{found_place}
use Rattle.pls_graph.proofs.Joined.{along}
use Rattle.pls_graph.proofs.Members.{Contains-cons_cases, Contains-first, Contains-from_place, Contains-later, place_from_Contains}
use Rattle.pls_graph.proofs.Placed.{ids_rise, row_of_place, row_place}
use Rattle.pls_facts.specs.Agreement.{AgreeAtPorts}
use Rattle.pls_facts.proofs.Agreed.{agree_everywhere}
use Rattle.pls_facts.proofs.Lists.{some_item}
use Rattle.pls_facts.proofs.Neighbours.{neighbour_row}
use Rattle.pls_facts.proofs.Pointed.{id_of_row, row_from_id}
use Rattle.pls_scheme.specs.Reading.{port_where, read_where}
use Rattle.pls_scheme.specs.Theorem.{HoldEverywhere, RulesShow}
use Rattle.pls_scheme.proofs.SaidPorts.{passes_port}
use Rattle.pls_universal.specs.declared.map.MapLabel.{MapLabel}
use Rattle.pls_universal.specs.declared.map.MapRow.{MapRow}
use Rattle.pls_universal.specs.Rules.{IsTestOf, has_map, is_node_right, is_port_right, map_rules, matched, nodes_of, same_state}
use Rattle.pls_universal.specs.laws.RuleLaws.{both_pass, map-same, network-is, state-same}

-- identities rise with places
abbrev AreRising : List NodeRow → Type 0
AreRising rows =
    (i j : ℕ) (row later : NodeRow) → i < j → slice_get rows i ≡ Some row
    → slice_get rows j ≡ Some later → row.id < later.id

-- so do those behind the first
rising_rest : (first : NodeRow) (rows : List NodeRow) → AreRising (first ∷ rows) → AreRising rows
rising_rest first rows rise i j row later before at then =
    rise (suc i) (suc j) row later (omega (arith, before)) at then

-- and they are above it
above_first : (first : NodeRow) (rows : List NodeRow) → AreRising (first ∷ rows)
    → (row : NodeRow) → Contains rows row → first.id < row.id
above_first first rows rise row in' =
    let (k, at) = place_from_Contains rows row in' in
    rise 0 (suc k) first row (omega arith) refl at

-- what stands behind the first in one of two lists of the same rows stands behind it in the other
behind_first : (first : NodeRow) (some others : List NodeRow) → AreRising (first ∷ some)
    → ((row : NodeRow) → Contains (first ∷ some) row → Contains (first ∷ others) row)
    → (row : NodeRow) → Contains some row → Contains others row
behind_first first some others rise keeps row in' =
    elim (Contains-cons_cases first others row (keeps row (Contains-later first some row in'))) [
      | inl same ↦ absurd (
          let up = above_first first some rise row in' in
          let id = ap (λ (row : NodeRow). row.id) same in
          omega (arith, up, id))
      | inr later ↦ later
    ]

-- rising rows that contain the same are the same
rising-same : (xs ys : List NodeRow) → AreRising xs → AreRising ys
    → ((row : NodeRow) → Contains xs row → Contains ys row)
    → ((row : NodeRow) → Contains ys row → Contains xs row) → xs ≡ ys
rising-same [] [] one other there back = refl
rising-same [] (y ∷ ys) one other there back =
    absurd (omega (arith, (back y (Contains-first y ys)).1))
rising-same (x ∷ xs) [] one other there back =
    absurd (omega (arith, (there x (Contains-first x xs)).1))
rising-same (x ∷ xs) (y ∷ ys) one other there back =
    heads (rising-same xs ys) first one there back
  where
    first : x ≡ y
    first = elim (Contains-cons_cases y ys x (there x (Contains-first x xs))) [
      | inl same ↦ sym same
      | inr later ↦ elim (Contains-cons_cases x xs y (back y (Contains-first y ys))) [
        | inl same ↦ same
        | inr behind ↦ absurd (
            let up = above_first y ys other x later in
            let down = above_first x xs one y behind in
            omega (arith, up, down))
      ]
    ]

    heads : (AreRising xs → AreRising ys
        → ((row : NodeRow) → Contains xs row → Contains ys row)
        → ((row : NodeRow) → Contains ys row → Contains xs row) → xs ≡ ys)
        → x ≡ y → AreRising (x ∷ xs)
        → ((row : NodeRow) → Contains (x ∷ xs) row → Contains (y ∷ ys) row)
        → ((row : NodeRow) → Contains (y ∷ ys) row → Contains (x ∷ xs) row)
        → x ∷ xs ≡ y ∷ ys
    heads shorter same rise there back =
        let mine : AreRising (y ∷ xs) =
        subst (λ (z : NodeRow). AreRising (z ∷ xs)) same rise in
        let onward : (row : NodeRow) → Contains (y ∷ xs) row → Contains (y ∷ ys) row =
        subst (λ (z : NodeRow). (row : NodeRow) → Contains (z ∷ xs) row → Contains (y ∷ ys) row)
        same there in
        let return : (row : NodeRow) → Contains (y ∷ ys) row → Contains (y ∷ xs) row =
        subst (λ (z : NodeRow). (row : NodeRow) → Contains (y ∷ ys) row → Contains (z ∷ xs) row)
        same back in
        let rest = shorter (rising_rest y xs mine) (rising_rest y ys other)
        (behind_first y xs ys mine onward) (behind_first y ys xs other return) in
        rw (same, rest) refl

-- a row of these parts
abbrev row_by : ℕ → State → List Port → NodeRow
row_by id state ports = record { id = id; state = state; ports = ports }

-- ports that are right are those of the row, where each neighbour calls itself by its identity
ports-right : (say : ℕ → MapLabel) (stated ports : List Port)
    → ((port : Port) → Contains ports port → (say port.nbr).own ≡ port.nbr)
    → matched is_port_right stated (map (port_where say) ports) ≡ true → stated ≡ ports
ports-right say [] [] own right = refl
ports-right say [] (port ∷ ports) own right = absurd (cc)
ports-right say (one ∷ stated) [] own right = absurd (cc)
ports-right say (one ∷ stated) (port ∷ ports) own right =
    let (first, others) = both_pass (is_port_right one (port_where say port))
    (matched is_port_right stated (map (port_where say) ports)) right in
    let (weight, nbr) = both_pass (one.weight == port.weight) (one.nbr == (say port.nbr).own)
    first in
    let same : one ≡ port = parts one.nbr one.weight port.nbr port.weight
    (eqb-true one.nbr (say port.nbr).own nbr ∙ own port (Contains-first port ports))
    (eqb-true one.weight port.weight weight) in
    rw (
      same,
      ports-right say stated ports
          (λ other in'. own other (Contains-later port ports other in')) others,
    ) refl
  where
    make : ℕ → ℕ → Port
    make nbr weight = record { nbr = nbr; weight = weight }

    parts : (a b c d : ℕ) → a ≡ c → b ≡ d → make a b ≡ make c d
    parts a b c d one two = rw (one, two) refl

module _ (test : List NodeRow → Bool) (rows : List NodeRow) (net : IsNetwork rows)
    (connected : IsConnected rows) (say : ℕ → MapLabel)
    (hold : HoldEverywhere (map_rules test) rows say) where
  first : (row : NodeRow) × Contains rows row
  first = some_item rows net.limits.some

  abbrev the_map : List MapRow
  the_map = (say first.0.id).rows

  abbrev nodes : List NodeRow
  nodes = nodes_of the_map

  -- neighbours have one map
  agree : AgreeAtPorts rows (λ id. (say id).rows)
  agree row port in' has = map-same (say port.nbr).rows (say row.id).rows
      (passes_port (has_map (say row.id).rows) say row.ports (hold row in').1.0 port has)

  -- so all have
  one_map_each : (row : NodeRow) → Contains rows row → (say row.id).rows ≡ the_map
  one_map_each row in' = agree_everywhere rows (λ id. (say id).rows) connected agree row.id
      first.0.id (id_of_row rows row in') (id_of_row rows first.0 first.1)

  -- it is a connected network
  stated : IsNetwork nodes × IsConnected nodes
  stated = network-is the_map (hold first.0 first.1).1.1.0

  -- each neighbour calls itself by its identity
  own_at : (row : NodeRow) → Contains rows row → (port : Port) → Contains row.ports port
      → (say port.nbr).own ≡ port.nbr
  own_at row in' port has =
      let (other, there, is) = neighbour_row rows net row in' port has in
      subst (λ (id : ℕ). (say id).own ≡ id) is
      (eqb-true (say other.id).own other.id (hold other there).0)

  -- a row of the network is that of the map
  found_row : (row : NodeRow) → Contains rows row → row_of nodes row.id ≡ Some row
  found_row row in' = by (row_of nodes row.id) refl
      (subst (λ (map : List MapRow). option_map_or (is_node_right (read_where say row))
      (row_of (nodes_of map) row.id) false ≡ true) (one_map_each row in')
      (hold row in').1.1.1.0)
    where
      by : (found : Option NodeRow) → row_of nodes row.id ≡ found
          → option_map_or (is_node_right (read_where say row)) found false ≡ true
          → found ≡ Some row
      by None is right = absurd (cc)
      by (Some other) is right =
          let (state, ports) = both_pass (same_state other.state row.state)
          (matched is_port_right other.ports (map (port_where say) row.ports)) right in
          let place = row_place nodes stated.0 row.id other is in
          ap Some (parts other.id other.state other.ports row.id row.state row.ports (sym place.2)
          (state-same other.state row.state state)
          (ports-right say other.ports row.ports (own_at row in') ports))
        where
          parts : (a : ℕ) (b : State) (c : List Port) (d : ℕ) (e : State) (f : List Port) → a ≡ d
              → b ≡ e → c ≡ f → row_by a b c ≡ row_by d e f
          parts a b c d e f one two three = rw (one, two, three) refl

  in_map : (row : NodeRow) → Contains rows row → Contains nodes row
  in_map row in' =
      let place = row_place nodes stated.0 row.id row (found_row row in') in
      Contains-from_place nodes place.0 row place.1

  -- an edge of the map leads from a node of the network to one
  passes : (u v : ℕ) → Contains (ids_of rows) u → Adjacent (edges_of nodes) u v
      → Contains (ids_of rows) v
  passes u v u_in adjacent =
      let names = Names-Adjacent nodes stated.0 u v adjacent in
      let (row, in', is) = row_from_id rows u u_in in
      let same : names.row ≡ row = same_Some names.row row
      (sym names.found ∙ subst (λ (id : ℕ). row_of nodes id ≡ Some row) is (found_row row in')) in
      let at = found_place (λ (port : Port). v == port.nbr) names.row.ports names.port
      names.names in
      let has : Contains row.ports names.port =
      subst (λ (row : NodeRow). Contains row.ports names.port) same
      (Contains-from_place names.row.ports at.0 names.port at.1) in
      let (other, there, leads) = neighbour_row rows net row in' names.port has in
      subst (Contains (ids_of rows)) (leads ∙ sym (eqb-true v names.port.nbr at.2))
      (id_of_row rows other there)

  -- so each node of the map is one of the network
  in_net : (row : NodeRow) → Contains nodes row → Contains rows row
  in_net row in' =
      let known : Contains (ids_of rows) row.id =
      along (edges_of nodes) (Contains (ids_of rows)) passes first.0.id row.id
      (stated.1 first.0.id row.id (id_of_row nodes first.0 (in_map first.0 first.1))
      (id_of_row nodes row in')) (id_of_row rows first.0 first.1) in
      let (other, there, is) = row_from_id rows row.id known in
      let at = place_from_Contains nodes row in' in
      let same : other ≡ row = same_Some other row
      (sym (subst (λ (id : ℕ). row_of nodes id ≡ Some other) is (found_row other there))
      ∙ row_of_place nodes stated.0 at.0 row at.1) in
      subst (Contains rows) same there

  -- the map's network is the network
  nodes_are : nodes ≡ rows
  nodes_are = rising-same nodes rows (ids_rise nodes stated.0) (ids_rise rows net) in_net in_map

  -- each node's map is that of the network
  pub each_map : (row : NodeRow) → Contains rows row → nodes_of (say row.id).rows ≡ rows
  each_map row in' = ap nodes_of (one_map_each row in') ∙ nodes_are

  -- and the network passes the test
  pub test_passes : test rows ≡ true
  test_passes = ap test (sym nodes_are) ∙ (hold first.0 first.1).1.1.1.1.0

-- rules that hold everywhere show the property
pub map_show : (test : List NodeRow → Bool) (holds : List NodeRow → Type 0) → IsTestOf test holds
    → RulesShow (map_rules test) holds
map_show test holds law rows net connected say hold =
    (law rows net connected).0 (test_passes test rows net connected say hold)
