-- Where each label has its node's identity and the map of the network, the rules hold everywhere in
-- a connected network with the property.
use Rattle.std.proofs.Common.{◌≡◌, ◌∙◌, ℕ, suc, ◌-◌, ◌^◌, ◌≤◌, ◌==◌, ◌+◌, Bool, true, false, nat_le, List, [], ◌∷◌, map, length, get_or, Contains, Option, Some, None, is_none, refl, sym, ap, subst, arith}
use Rattle.std.specs.List.{flat_map, list_all}
use Rattle.std.specs.Option.{option_map_or}
use Rattle.std.proofs.lemmas.Bool.{and_from, eq-eqb, le-leb}
use Rattle.std.proofs.lemmas.List.{length-map}
use Rattle.std.proofs.lemmas.List.Elements.{All-contains, Contains-get_or}
use Rattle.std.proofs.lemmas.List.Folds.{list_all-map}
use Rattle.std.proofs.lemmas.List.Sums.{list_all-from_AllPass}
use Rattle.pls_configuration.specs.declared.limits.TheConstants.{MAX_NODES, MAX_NUM, MAX_PORTS}
use Rattle.pls_configuration.specs.declared.row.Port.{Port}
use Rattle.pls_configuration.specs.declared.row.State.{State}
use Rattle.pls_configuration.specs.declared.row.NodeRow.{NodeRow}
use Rattle.pls_configuration.specs.Configuration.{IsNetwork, ids_of, ports_in, refusal_of, row_of}
use Rattle.pls_configuration.specs.Walk.{IsConnected, edges_of}
use Rattle.pls_graph.specs.Size.{greatest, size_of, weights_of}
use Rattle.pls_graph.proofs.Members.{Contains-first, Contains-flat_map, Contains-later, Contains-map}
use Rattle.pls_facts.proofs.Classes.{joins_all-JoinAll}
use Rattle.pls_facts.proofs.Greatest.{in_greatest}
use Rattle.pls_facts.proofs.Neighbours.{neighbour_row, within_greatest}
use Rattle.pls_facts.proofs.Pointed.{row_of_id}
use Rattle.pls_scheme.specs.Reading.{port_where, read_where}
use Rattle.pls_scheme.specs.Theorem.{AreRightEverywhere, AreWords, HoldEverywhere, OneIsRight}
use Rattle.pls_scheme.proofs.SaidPorts.{all_ports_pass}
use Rattle.pls_universal.specs.declared.map.MapLabel.{MapLabel}
use Rattle.pls_universal.specs.declared.map.MapRow.{MapRow}
use Rattle.pls_universal.specs.Map.{map_of, port_stated, row_stated, up_stated}
use Rattle.pls_universal.specs.Rules.{IsTestOf, has_map, is_joined, is_network, is_node_right, is_port_right, is_port_small, is_small, is_within_limits, fits_32_bits, map_rules, map_says, matched, node_of, nodes_of, port_of, same_port, same_record, same_state, same_up, up_of}

-- lists match themselves, where each item passes with itself
pub matched-itself : {X : Type 0} (test : X → X → Bool) → ((x : X) → test x x ≡ true) → (xs : List X)
    → matched test xs xs ≡ true
matched-itself test itself [] = refl
matched-itself test itself (x ∷ xs) =
    and_from (test x x) (matched test xs xs) (itself x) (matched-itself test itself xs)

number-itself : (number : ℕ) → (number == number) ≡ true
number-itself number = eq-eqb number number refl

port-itself : (port : ℕ × ℕ) → same_port port port ≡ true
port-itself port = and_from _ _ (number-itself port.0) (number-itself port.1)

pub record-itself : (row : MapRow) → same_record row row ≡ true
record-itself row =
    and_from _ (matched same_port row.ports row.ports)
    (and_from _ (row.num == row.num) (and_from _ (row.mark == row.mark)
    (and_from (row.id == row.id) (row.up == row.up) (number-itself row.id) (number-itself row.up))
    (number-itself row.mark)) (number-itself row.num))
    (matched-itself same_port port-itself row.ports)

up-itself : (up : Option ℕ) → same_up up up ≡ true
up-itself None = refl
up-itself (Some port) = number-itself port

state-itself : (state : State) → same_state state state ≡ true
state-itself state =
    and_from _ (state.num == state.num) (and_from (same_up state.up state.up)
    (state.mark == state.mark) (up-itself state.up) (number-itself state.mark))
    (number-itself state.num)

-- what a record states of a node is the node
up-back : (up : Option ℕ) → up_of (up_stated up) ≡ up
up-back None = refl
up-back (Some port) = let one : port + 1 ≡ suc port = omega arith in ap up_of one

ports-back : (ports : List Port) → map port_of (map port_stated ports) ≡ ports
ports-back [] = refl
ports-back (port ∷ ports) = ap (λ (ports : List Port). port ∷ ports) (ports-back ports)

node-back : (row : NodeRow) → node_of (row_stated row) ≡ row
node-back row = rw (up-back row.state.up, ports-back row.ports) refl

pub nodes-back : (rows : List NodeRow) → nodes_of (map_of rows) ≡ rows
nodes-back [] = refl
nodes-back (row ∷ rows) = rw (node-back row, nodes-back rows) refl

-- where all are joined, the test passes
pub connected-joined : (rows : List NodeRow) → IsConnected rows → is_joined rows ≡ true
connected-joined rows = (joins_all-JoinAll (edges_of rows) (ids_of rows)).1

module _ (rows : List NodeRow) (net : IsNetwork rows) (words : AreWords (size_of rows)) where
  id_small : (row : NodeRow) → Contains rows row → fits_32_bits row.id ≡ true
  id_small row in' = le-leb row.id (2 ^ 32 - 1)
      (let most = within_greatest (λ (row : NodeRow). row.id) rows row in' in
      let limit = words.max_id in omega (arith, most, limit))

  port_small : (row : NodeRow) → Contains rows row → (port : Port) → Contains row.ports port
      → is_port_small (port_stated port) ≡ true
  port_small row in' port has =
      let (other, there, is) = neighbour_row rows net row in' port has in
      let weight : port.weight ≤ greatest (weights_of rows) =
      in_greatest (weights_of rows) port.weight
      (Contains-map (λ (port : Port). port.weight) (flat_map (λ (row : NodeRow). row.ports) rows)
      port (Contains-flat_map (λ (row : NodeRow). row.ports) rows row port in' has)) in
      let limit = words.max_weight in
      and_from (fits_32_bits port.nbr) (fits_32_bits port.weight)
      (subst (λ (id : ℕ). fits_32_bits id ≡ true) is (id_small other there))
      (le-leb port.weight (2 ^ 32 - 1) (omega (arith, weight, limit)))

  row_small : (row : NodeRow) → Contains rows row → is_small (row_stated row) ≡ true
  row_small row in' =
      let mark = within_greatest (λ (row : NodeRow). row.state.mark) rows row in' in
      let limit = words.max_mark in
      let num = All-contains (λ (row : NodeRow). row.state.num ≤ MAX_NUM) rows row
      net.limits.small in' in
      and_from _ (list_all is_port_small (map port_stated row.ports))
      (and_from _ (nat_le row.state.num MAX_NUM)
      (and_from (fits_32_bits row.id) (fits_32_bits row.state.mark)
      (id_small row in') (le-leb row.state.mark (2 ^ 32 - 1) (omega (arith, mark, limit))))
      (le-leb row.state.num MAX_NUM num))
      (list_all-map is_port_small port_stated row.ports
      ∙ list_all-from_AllPass (λ (port : Port). is_port_small (port_stated port)) row.ports
      (λ p d within. port_small row in' (get_or row.ports p d)
      (Contains-get_or row.ports p d within)))

  -- the map of a connected network passes rule 5
  network_passes : IsConnected rows → is_network (map_of rows) ≡ true
  network_passes connected =
      let long : length (map_of rows) ≡ length rows = length-map rows row_stated in
      let some = net.limits.some in
      let few = net.limits.few_nodes in
      let counts = and_from (nat_le 1 (length (map_of rows)))
      (nat_le (length (map_of rows)) MAX_NODES)
      (le-leb 1 (length (map_of rows)) (omega (arith, long, some)))
      (le-leb (length (map_of rows)) MAX_NODES (omega (arith, long, few))) in
      let ports : nat_le (ports_in (nodes_of (map_of rows))) MAX_PORTS ≡ true =
      subst (λ (nodes : List NodeRow). nat_le (ports_in nodes) MAX_PORTS ≡ true)
      (sym (nodes-back rows)) (le-leb (ports_in rows) MAX_PORTS net.limits.few_ports) in
      let small : list_all is_small (map_of rows) ≡ true =
      list_all-map is_small row_stated rows
      ∙ list_all-from_AllPass (λ (row : NodeRow). is_small (row_stated row)) rows
      (λ i d within. row_small (get_or rows i d) (Contains-get_or rows i d within)) in
      let valid : is_none (refusal_of (nodes_of (map_of rows))) ≡ true =
      ap (λ (nodes : List NodeRow). is_none (refusal_of nodes)) (nodes-back rows)
      ∙ ap is_none net.valid in
      and_from _ (is_joined (nodes_of (map_of rows)))
      (and_from (is_within_limits (map_of rows)) (is_none (refusal_of (nodes_of (map_of rows))))
      (and_from _ (list_all is_small (map_of rows))
      (and_from _ (nat_le (ports_in (nodes_of (map_of rows))) MAX_PORTS) counts ports) small) valid)
      (subst (λ (nodes : List NodeRow). is_joined nodes ≡ true) (sym (nodes-back rows))
      (connected-joined rows connected))

-- the ports of a row are right, where each neighbour calls itself by its identity
right-ports : (say : ℕ → MapLabel) (ports : List Port)
    → ((port : Port) → Contains ports port → (say port.nbr).own ≡ port.nbr)
    → matched is_port_right ports (map (port_where say) ports) ≡ true
right-ports say [] own = refl
right-ports say (port ∷ ports) own =
    and_from (is_port_right port (port_where say port)) _
    (and_from (port.weight == port.weight) (port.nbr == (say port.nbr).own)
    (number-itself port.weight)
    (eq-eqb port.nbr (say port.nbr).own (sym (own port (Contains-first port ports)))))
    (right-ports say ports (λ other in'. own other (Contains-later port ports other in')))

-- the rules hold everywhere where what is said is right
pub map_met : (test : List NodeRow → Bool) (holds : List NodeRow → Type 0) → IsTestOf test holds
    → (rows : List NodeRow) → IsNetwork rows → IsConnected rows → holds rows
    → AreWords (size_of rows) → (say : ℕ → MapLabel)
    → AreRightEverywhere (map_says rows) rows say → HoldEverywhere (map_rules test) rows say
map_met test holds law rows net connected has words say right row in' =
    (itself, (maps, (network, (here, (passes, tt)))))
  where
    itself : ((say row.id).own == row.id) ≡ true
    itself = eq-eqb (say row.id).own row.id (right row in').0

    network : is_network (say row.id).rows ≡ true
    network = subst (λ (rows : List MapRow). is_network rows ≡ true) (sym (right row in').1)
        (network_passes rows net words connected)

    passes : test (nodes_of (say row.id).rows) ≡ true
    passes = ap test (ap nodes_of (right row in').1 ∙ nodes-back rows)
        ∙ (law rows net connected).1 has

    agrees : (port : Port) → Contains row.ports port
        → has_map (say row.id).rows (port_where say port) ≡ true
    agrees port in'' =
        let (other, there, is) = neighbour_row rows net row in' port in'' in
        let theirs : (say port.nbr).rows ≡ map_of rows =
        subst (λ (id : ℕ). (say id).rows ≡ map_of rows) is (right other there).1 in
        subst (λ (map : List MapRow). matched same_record map (say row.id).rows ≡ true)
        ((right row in').1 ∙ sym theirs)
        (matched-itself same_record record-itself (say row.id).rows)

    maps : list_all (has_map (say row.id).rows) (map (port_where say) row.ports) ≡ true
    maps = all_ports_pass (has_map (say row.id).rows) say row.ports agrees

    own : (port : Port) → Contains row.ports port → (say port.nbr).own ≡ port.nbr
    own port in'' =
        let (other, there, is) = neighbour_row rows net row in' port in'' in
        subst (λ (id : ℕ). (say id).own ≡ id) is (right other there).0

    node : is_node_right (read_where say row) row ≡ true
    node = and_from (same_state row.state row.state)
        (matched is_port_right row.ports (map (port_where say) row.ports))
        (state-itself row.state) (right-ports say row.ports own)

    here : option_map_or (is_node_right (read_where say row))
        (row_of (nodes_of (say row.id).rows) row.id) false ≡ true
    here = ap (λ (nodes : List NodeRow). option_map_or (is_node_right (read_where say row))
        (row_of nodes row.id) false) (ap nodes_of (right row in').1 ∙ nodes-back rows)
        ∙ ap (λ (found : Option NodeRow). option_map_or (is_node_right (read_where say row)) found
        false) (row_of_id rows net row in') ∙ node

-- one label is right for each node
pub map_one_right : (rows : List NodeRow) (row : NodeRow) (one other : MapLabel)
    → map_says rows row one → map_says rows row other → one ≡ other
map_one_right rows row one other mine theirs =
    parts one.own other.own one.rows other.rows (mine.0 ∙ sym theirs.0) (mine.1 ∙ sym theirs.1)
  where
    make : ℕ → List MapRow → MapLabel
    make own rows = record { own = own; rows = rows }

    parts : (a b : ℕ) (m n : List MapRow) → a ≡ b → m ≡ n → make a m ≡ make b n
    parts a b m n one two = rw (one, two) refl

-- so it is for each node of a connected network with a property
pub map_right_once : (holds : List NodeRow → Type 0) → OneIsRight holds map_says
map_right_once holds rows net connected has row one other in' mine theirs =
    map_one_right rows row one other mine theirs
