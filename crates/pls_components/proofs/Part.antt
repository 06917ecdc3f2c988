-- A component by itself is a network, and connected.
use Rattle.std.proofs.Common.{◌≡◌, ◌∙◌, ℕ, suc, ◌+◌, ◌<◌, ◌≤◌, ◌==◌, true, false, List, [], ◌∷◌, length, get_or, slice_get, All, Contains, Some, refl, sym, ap, subst, arith}
use Rattle.std.proofs.lemmas.Bool.{eqb-true}
use Rattle.std.proofs.lemmas.List.Elements.{All-head, All-tail, Contains-get_or}
use Rattle.std.proofs.lemmas.Option.{same_Some, slice_get_within}
use Rattle.pls_configuration.specs.declared.limits.TheConstants.{MAX_NUM}
use Rattle.pls_configuration.specs.declared.row.Port.{Port}
use Rattle.pls_configuration.specs.declared.row.NodeRow.{NodeRow}
use Rattle.pls_configuration.specs.Configuration.{IsNetwork, has_repeat, ids_of, links_itself, points_nowhere, row_of}
use Rattle.pls_configuration.specs.Walk.{Adjacent, AreJoined, Edge, IsConnected, Walk, edges_of}
use Rattle.pls_configuration.specs.Rising.{IsRising}
use Rattle.pls_graph.proofs.Adjacent.{Adjacent-port, Names, Names-Adjacent}
use Rattle.pls_graph.proofs.Finds.{fails_where_none, find-placed, found_place, item_at}
use Rattle.pls_graph.proofs.Beside.{one_place}
use Rattle.pls_graph.proofs.Joined.{Adjacent-turned, AreJoined-adjacent, AreJoined-through, AreJoined-turned}
use Rattle.pls_graph.proofs.Members.{Contains-from_map, Contains-from_place, place_from_Contains}
use Rattle.pls_graph.proofs.Placed.{WayBack, ids_rise, ports_differ, row_place, way_back}
use Rattle.pls_graph.proofs.Rising.{RiseFrom, ids_apart}
use Rattle.pls_graph.proofs.Sound.{AreSound, sound_valid}
use Rattle.pls_graph.proofs.Valid.{NothingRefused, nothing_refused}
use Rattle.pls_components.specs.Components.{AreJoinedAt, IsComponent, items_at}
use Rattle.pls_components.proofs.Items.{All-items, from-items, items-at, items-sum, length-items, rising-few, rising-head, rising-tail}

module _ (rows : List NodeRow) (net : IsNetwork rows) where
  -- rows at rising places rise
  rise : (low : ℕ) (places : List ℕ) → IsRising places
      → All (λ (place : ℕ). place < length rows) places
      → ((place : ℕ) (row : NodeRow) → Contains places place → slice_get rows place ≡ Some row
      → low ≤ row.id)
      → RiseFrom low (items_at rows places)
  rise low [] rising within above = tt
  rise low (first ∷ places) rising within above =
      let (row, at) : (row : NodeRow) × (slice_get rows first ≡ Some row) =
      item_at rows first (All-head (λ (place : ℕ). place < length rows) first places within) in
      let rest : RiseFrom (suc row.id) (items_at rows places) =
      rise (suc row.id) places (rising-tail first places rising)
      (All-tail (λ (place : ℕ). place < length rows) first places within)
      (λ place other in' there.
      let less : first < place = later first places rising place in' in
      let up = ids_rise rows net first place row other less at there in omega arith) in
      let least : low ≤ row.id = above first row (0, omega arith, refl) at in
      let both : (low ≤ row.id) × RiseFrom (suc row.id) (items_at rows places) = (least, rest) in
      rw at both
    where
      later : (first : ℕ) (places : List ℕ) → IsRising (first ∷ places) → (place : ℕ)
          → Contains places place → first < place
      later first places rising place in' =
          let less = rising-head first places rising in'.0 place in'.1 in
          let same = in'.2 in omega arith

  module _ (places : List ℕ) (is : IsComponent rows places) where
    abbrev edges : List Edge
    edges = edges_of rows

    abbrev part : List NodeRow
    part = items_at rows places

    pub places_within : All (λ (place : ℕ). place < length rows) places
    places_within k d inside =
        let joined : AreJoinedAt rows is.node (get_or places k d) =
        (is.members (get_or places k d)).0 (Contains-get_or places k d inside) in
        slice_get_within rows (get_or places k d) joined.other joined.here

    own : AreJoinedAt rows is.node is.node
    own = (is.members is.node).0 is.own

    joined_to : (place : ℕ) (row : NodeRow) → slice_get rows place ≡ Some row
        → Contains places place → AreJoined edges own.one.id row.id
    joined_to place row at in' =
        let there : AreJoinedAt rows is.node place = (is.members place).0 in' in
        let first : there.one ≡ own.one = same_Some there.one own.one (sym there.there ∙ own.there) in
        let last : there.other ≡ row = same_Some there.other row (sym there.here ∙ at) in
        subst (λ (one : NodeRow). AreJoined edges one.id row.id) first
        (subst (λ (other : NodeRow). AreJoined edges there.one.id other.id) last there.walk)

    in_part : (place : ℕ) (row : NodeRow) → slice_get rows place ≡ Some row
        → AreJoined edges own.one.id row.id → Contains places place
    in_part place row at joined = (is.members place).1 (record {
      one = own.one;
      other = row;
      there = own.there;
      here = at;
      walk = joined;
    })

    -- a neighbour of a node of the component is in it
    pub part_closed : (i j : ℕ) (row other : NodeRow) → slice_get rows i ≡ Some row
        → slice_get rows j ≡ Some other → Contains places i → Adjacent edges row.id other.id
        → Contains places j
    part_closed i j row other at there in' step =
        in_part j other there (AreJoined-through edges own.one.id row.id other.id
        (joined_to i row at in') (AreJoined-adjacent edges row.id other.id step))

    pub part_rises : RiseFrom 0 part
    part_rises = rise 0 places is.rising places_within (λ place row in' at. omega arith)

    part_differ : has_repeat (ids_of part) ≡ false
    part_differ = ids_apart 0 part part_rises

    -- a row of the component stands in it
    pub part_at : (place : ℕ) (row : NodeRow) → slice_get rows place ≡ Some row
        → Contains places place
        → (k : ℕ) × (slice_get places k ≡ Some place) × (slice_get part k ≡ Some row)
    part_at place row at in' =
        let (k, here) : (k : ℕ) × (slice_get places k ≡ Some place) =
        place_from_Contains places place in' in
        (k, here, items-at rows places places_within k place here ∙ at)

    -- and is found by its identity
    row_of_part : (place : ℕ) (row : NodeRow) → slice_get rows place ≡ Some row
        → Contains places place → row_of part row.id ≡ Some row
    row_of_part place row at in' =
        let (k, here, there) : (k : ℕ) × (slice_get places k ≡ Some place)
        × (slice_get part k ≡ Some row) = part_at place row at in' in
        find-placed (λ (row : NodeRow). row.id) part k row part_differ there

    -- each port leads back in the component
    pub part_way : (k p : ℕ) (row : NodeRow) (port : Port) → slice_get part k ≡ Some row
        → slice_get row.ports p ≡ Some port → WayBack part row port
    part_way k p row port at has =
        let (place, here, there) : (place : ℕ) × (slice_get places k ≡ Some place)
        × (slice_get rows place ≡ Some row) = from-items rows places places_within k row at in
        let way : WayBack rows row port = way_back rows net place row there p port has in
        let (j, beyond, same) : (j : ℕ) × (slice_get rows j ≡ Some way.other)
        × (port.nbr ≡ way.other.id) = row_place rows net port.nbr way.other way.named in
        let step : Adjacent edges row.id way.other.id =
        subst (Adjacent edges row.id) same (Adjacent-port rows net place p row port there has) in
        let in' : Contains places j =
        part_closed place j row way.other there beyond (Contains-from_place places k place here) step in
        record {
          other = way.other;
          back = way.back;
          named = subst (λ (id : ℕ). row_of part id ≡ Some way.other) (sym same)
              (row_of_part j way.other beyond in');
          returns = way.returns;
          weight = way.weight;
        }

    part_sound : AreSound part
    part_sound = record {
      rise = part_rises;
      each = λ k row at.
          let (place, here, there) : (place : ℕ) × (slice_get places k ≡ Some place)
          × (slice_get rows place ≡ Some row) = from-items rows places places_within k row at in
          let valid : NothingRefused rows = nothing_refused rows net.valid in
          record {
            apart = ports_differ rows net place row there;
            another = fails_where_none links_itself rows place row valid.self_link there;
            way = λ p port has. part_way k p row port at has;
            within = fails_where_none points_nowhere rows place row valid.pointer there;
          };
    }

    -- a component by itself is a network
    pub part_network : IsNetwork part
    part_network =
        let many : length part ≡ length places = length-items rows places places_within in
        let some : 0 < length places = let in' = is.own.1 in omega arith in
        let few : length places + 0 ≤ length rows =
        rising-few (length rows) 0 places is.rising (λ k d inside. omega arith) places_within
        (omega arith) in
        let ports = items-sum (λ (row : NodeRow). length row.ports) rows 0 places is.rising
        (λ k d inside. omega arith) places_within in
        let most = net.limits.few_nodes in
        let ports_most = net.limits.few_ports in
        record {
          limits = record {
            some = omega arith;
            few_nodes = omega arith;
            few_ports = omega arith;
            small = All-items rows (λ (row : NodeRow). row.state.num ≤ MAX_NUM) net.limits.small
                places;
          };
          valid = sound_valid part part_sound;
        }

    -- the row of an identity is one of the component
    record Among (id : ℕ) : Type 0 where
      place : ℕ
      row : NodeRow
      at : slice_get rows place ≡ Some row
      in' : Contains places place
      is_id : row.id ≡ id

    -- a walk from a node of the component stays in it
    walk_in_part : (u v : ℕ) (nodes : List ℕ) → Among u → Walk edges u nodes v
        → Walk (edges_of part) u nodes v
    walk_in_part u v [] here same = same
    walk_in_part u v (next ∷ nodes) here walk =
        let names : Names rows u next = Names-Adjacent rows net u next walk.0 in
        let (i, at, is_u) : (i : ℕ) × (slice_get rows i ≡ Some names.row) × (u ≡ names.row.id) =
        row_place rows net u names.row names.found in
        let (p, has, named) : (p : ℕ) × (slice_get names.row.ports p ≡ Some names.port)
        × ((next == names.port.nbr) ≡ true) =
        found_place (λ port. next == port.nbr) names.row.ports names.port names.names in
        let to : next ≡ names.port.nbr = eqb-true next names.port.nbr named in
        let same_row : here.row ≡ names.row = one_row here.place i here.row names.row here.at at
        (here.is_id ∙ is_u) in
        let (k, placed, there) : (k : ℕ) × (slice_get places k ≡ Some here.place)
        × (slice_get part k ≡ Some here.row) = part_at here.place here.row here.at here.in' in
        let step : Adjacent (edges_of part) names.row.id names.port.nbr =
        Adjacent-port part part_network k p names.row names.port
        (there ∙ ap (λ (row : NodeRow). Some row) same_row) has in (
          subst (λ (u : ℕ). Adjacent (edges_of part) u next) (sym is_u)
              (subst (Adjacent (edges_of part) names.row.id) (sym to) step),
          walk_in_part next v nodes (beyond u next here walk.0) walk.1,
        )
      where
        one_row : (i j : ℕ) (row other : NodeRow) → slice_get rows i ≡ Some row
            → slice_get rows j ≡ Some other → row.id ≡ other.id → row ≡ other
        one_row i j row other at there same =
            let one : i ≡ j = one_place rows net i j row other at there same in
            same_Some row other (sym at ∙ ap (slice_get rows) one ∙ there)

        beyond : (u next : ℕ) → Among u → Adjacent edges u next → Among next
        beyond u next here step =
            let names : Names rows next u = Names-Adjacent rows net next u
            (Adjacent-turned edges u next step) in
            let (j, there, is_next) : (j : ℕ) × (slice_get rows j ≡ Some names.row)
            × (next ≡ names.row.id) = row_place rows net next names.row names.found in
            record {
              place = j;
              row = names.row;
              at = there;
              in' = part_closed here.place j here.row names.row here.at there here.in'
                  (subst (λ (u : ℕ). Adjacent edges u names.row.id) (sym here.is_id)
                  (subst (Adjacent edges u) is_next step));
              is_id = sym is_next;
            }

    among : (id : ℕ) → Contains (ids_of part) id → Among id
    among id in' =
        let (row, stands, is_id) : (row : NodeRow) × Contains part row × (row.id ≡ id) =
        Contains-from_map (λ (row : NodeRow). row.id) part id in' in
        let (k, at) : (k : ℕ) × (slice_get part k ≡ Some row) = place_from_Contains part row stands in
        let (place, here, there) : (place : ℕ) × (slice_get places k ≡ Some place)
        × (slice_get rows place ≡ Some row) = from-items rows places places_within k row at in
        record {
          place = place;
          row = row;
          at = there;
          in' = Contains-from_place places k place here;
          is_id = is_id;
        }

    -- and connected
    pub part_connected : IsConnected part
    part_connected u v in_u in_v =
        let one : Among u = among u in_u in
        let other : Among v = among v in_v in
        let there : AreJoined edges own.one.id u =
        subst (AreJoined edges own.one.id) one.is_id (joined_to one.place one.row one.at one.in') in
        let here : AreJoined edges own.one.id v =
        subst (AreJoined edges own.one.id) other.is_id
        (joined_to other.place other.row other.at other.in') in
        let joined : AreJoined edges u v =
        AreJoined-through edges u own.one.id v (AreJoined-turned edges own.one.id u there) here in
        (joined.0, walk_in_part u v joined.0 one joined.1)
