-- The port that names a node among those of a neighbour is the way back.
use Rattle.std.proofs.Common.{◌≡◌, ◌∙◌, ℕ, ◌+◌, ◌<◌, ◌++◌, ◌∷◌, [], List, length, get_or, map, take, option_map, Some, slice_get, refl, sym, ap, subst, arith}
use Rattle.std.proofs.lemmas.List.{length-map, map-append}
use Rattle.std.proofs.lemmas.Option.{same_Some, slice_get-get_or, slice_get_within}
use Rattle.pls_configuration.specs.declared.row.Port.{Port}
use Rattle.pls_configuration.specs.declared.row.NodeRow.{NodeRow}
use Rattle.pls_configuration.specs.Configuration.{IsNetwork, ports_in}
use Rattle.pls_graph.specs.Places.{beside}
use Rattle.pls_graph.proofs.Beside.{one_place}
use Rattle.pls_graph.proofs.Finds.{from_option_map, item_at}
use Rattle.pls_configuration.specs.declared.limits.TheConstants.{MAX_PORTS}
use Rattle.pls_sim.specs.declared.target.Target.{Target}
use Rattle.pls_sim.specs.Ways.{AreFirsts, IsPlaceOf, IsSlot, slot}
use Rattle.pls_sim.specs.inner.Targets.{AreTargets}
use Rattle.pls_sim.proofs.Behind.{each_more}
use Rattle.pls_sim.proofs.Ends.{End, beside_length, end_at, slot_back}
use Rattle.pls_sim.proofs.Numbering.{one_port, ports_more, slot_within}
use Rattle.pls_sim.proofs.Refusing.{ports_at}

-- where a port of the list names the node, the port of this number does
abbrev pub Names : List Port → ℕ → ℕ → Type 0
Names ports nbr number =
    (k : ℕ) (port : Port) → slice_get ports k ≡ Some port → port.nbr ≡ nbr
    → option_map (λ port. port.nbr) (slice_get ports number) ≡ Some nbr

module _ (rows : List NodeRow) (net : IsNetwork rows) (i p : ℕ) (row : NodeRow)
    (at : slice_get rows i ≡ Some row) (within : p < length row.ports) where
  -- the neighbour's port that names the node is the way back
  pub way_found : (j : ℕ) → j ≡ get_or (beside rows i) p 0 → (ports : List Port)
      → option_map (λ row. row.ports) (slice_get rows j) ≡ Some ports
      → (number : ℕ) → Names ports row.id number
      → IsSlot rows (slot rows j number) (end_at rows net i p row at within).port.nbr row.id
  way_found j is ports read number names =
      let end = end_at rows net i p row at within in
      let there : slice_get rows j ≡ Some end.other = ap (slice_get rows) is ∙ end.there in
      let back = slot_back rows net i p row end.port at end.has in
      let place : back.1.place ≡ j =
      one_place rows net back.1.place j back.1.row end.other back.1.stands there
      (back.1.owner ∙ end.leads) in
      let same : back.1.row ≡ end.other =
      same_Some back.1.row end.other (sym back.1.stands ∙ ap (slice_get rows) place ∙ there) in
      let mine : end.other.ports ≡ ports = ports_at rows j end.other ports there read in
      let has : slice_get ports back.1.at ≡ Some back.1.port =
      ap (λ (ports : List Port). slice_get ports back.1.at) (sym mine)
      ∙ ap (λ (row : NodeRow). slice_get row.ports back.1.at) (sym same) ∙ back.1.has in
      let found : (port : Port) × (slice_get ports number ≡ Some port) × (port.nbr ≡ row.id) =
      from_option_map (λ (port : Port). port.nbr) (slice_get ports number) row.id
      (names back.1.at back.1.port has back.1.leads) in record {
        place = j;
        at = number;
        row = end.other;
        port = found.0;
        stands = there;
        has = ap (λ (ports : List Port). slice_get ports number) mine ∙ found.1;
        is = refl;
        owner = sym end.leads;
        leads = found.2;
      }

  -- where one more port leads
  pub one_more : (targets : List Target) → length targets ≡ slot rows i p
      → AreTargets rows targets → (target : Target)
      → IsSlot rows target.port (end_at rows net i p row at within).port.nbr row.id
      → target.place ≡ get_or (beside rows i) p 0 → AreTargets rows (targets ++ target ∷ [])
  one_more targets long are target s there = record {
    lead_back = rw (map-append (λ (target : Target). target.port) targets (target ∷ []))
        (λ number node neighbour other read. each_more LeadsBack ports_back target.port
        (λ number other read node neighbour. are.lead_back number node neighbour other read)
        (λ node neighbour t.
        let ends = own_ends (length ports_back) (length-map targets (λ target. target.port))
        node neighbour t in
        subst (λ (u : ℕ). IsSlot rows target.port u node) ends.1
        (subst (λ (v : ℕ). IsSlot rows target.port end.port.nbr v) ends.0 s))
        number other read node neighbour);
    are_ends = rw (map-append (λ (target : Target). target.place) targets (target ∷ []))
        (λ number node neighbour place read. each_more IsEnd places target.place
        (λ number place read node neighbour. are.are_ends number node neighbour place read)
        (λ node neighbour t.
        let ends = own_ends (length places) (length-map targets (λ target. target.place))
        node neighbour t in
        subst (λ (u : ℕ). IsPlaceOf rows u target.place) ends.1 own_place)
        number place read node neighbour);
  }
    where
      end : End rows i p row
      end = end_at rows net i p row at within

      ports_back : List ℕ
      ports_back = map (λ target. target.port) targets

      places : List ℕ
      places = map (λ target. target.place) targets

      LeadsBack : ℕ → ℕ → Type 0
      LeadsBack number other =
          (node neighbour : ℕ) → IsSlot rows number node neighbour
          → IsSlot rows other neighbour node

      IsEnd : ℕ → ℕ → Type 0
      IsEnd number place =
          (node neighbour : ℕ) → IsSlot rows number node neighbour
          → IsPlaceOf rows neighbour place

      own_place : IsPlaceOf rows end.port.nbr target.place
      own_place = record {
        row = end.other;
        stands = ap (slice_get rows) there ∙ end.there;
        is = sym end.leads;
      }

      own_ends : (count : ℕ) → count ≡ length targets → (node neighbour : ℕ)
          → IsSlot rows count node neighbour
          → (row.id ≡ node) × (end.port.nbr ≡ neighbour)
      own_ends count is node neighbour t =
          one_port rows count row.id end.port.nbr node neighbour (record {
            place = i;
            at = p;
            row = row;
            port = end.port;
            stands = at;
            has = end.has;
            is = is ∙ long;
            owner = refl;
            leads = refl;
          }) t

-- what the number of a way back, made of the neighbour's first number, is good for
pub record IsStep (rows : List NodeRow) (i p way place : ℕ) : Type 0 where
  pub small : way < MAX_PORTS
  pub more : (targets : List Target) → length targets ≡ slot rows i p → AreTargets rows targets
      → AreTargets rows (targets ++ (record { port = way; place = place }) ∷ [])

pub step : (rows : List NodeRow) → IsNetwork rows → (i p id : ℕ) (places firsts : List ℕ)
    (ports : List Port) (number : ℕ) → i < length rows
    → option_map (λ row. row.id) (slice_get rows i) ≡ Some id → places ≡ beside rows i
    → p < length places → AreFirsts rows firsts
    → option_map (λ row. row.ports) (slice_get rows (get_or places p 0)) ≡ Some ports
    → Names ports id number
    → IsStep rows i p (get_or firsts (get_or places p 0) 0 + number) (get_or places p 0)
step rows net i p id places firsts ports number inside named places_are within are_firsts read names =
    let row : (row : NodeRow) × (slice_get rows i ≡ Some row) × (row.id ≡ id) =
    from_option_map (λ (row : NodeRow). row.id) (slice_get rows i) id named in
    let few : p < length row.0.ports =
    omega (arith, within, ap length places_are, beside_length rows net i row.0 row.1) in
    let j : ℕ = get_or places p 0 in
    let same : j ≡ get_or (beside rows i) p 0 =
    ap (λ (places : List ℕ). get_or places p 0) places_are in
    let other : (other : NodeRow) × (slice_get rows j ≡ Some other) × (other.ports ≡ ports) =
    from_option_map (λ (row : NodeRow). row.ports) (slice_get rows j) ports read in
    let s = way_found rows net i p row.0 row.1 few j same ports read number
    (subst (λ (id : ℕ). Names ports id number) (sym row.2) names) in
    let there : j < length firsts =
    omega (arith, slice_get_within rows j other.0 other.1, are_firsts.count) in
    let is : slot rows j number ≡ get_or firsts j 0 + number =
    ap (λ (first : ℕ). first + number)
    (sym (are_firsts.each j (get_or firsts j 0) (slice_get-get_or firsts j 0 there))) in record {
      small = omega (
        arith,
        is,
        slot_within rows (slot rows j number) _ _ s,
        net.limits.few_ports,
      );
      more = λ targets long are. one_more rows net i p row.0 row.1 few targets long are
          (record { port = get_or firsts j 0 + number; place = j })
          (subst (λ (way : ℕ). IsSlot rows way
          (end_at rows net i p row.0 row.1 few).port.nbr row.0.id) is s) same;
    }

-- where no port is, none leads anywhere
pub no_targets : (rows : List NodeRow) → AreTargets rows []
no_targets rows = record {
  lead_back = λ number node neighbour other read. absurd (cc);
  are_ends = λ number node neighbour place read. absurd (cc);
}

-- as many ways as ports up to those of the next node
pub long_more : (rows : List NodeRow) → IsNetwork rows → (i count p : ℕ) (places : List ℕ)
    → i < length rows → places ≡ beside rows i → count ≡ ports_in (take i rows) + p
    → p ≡ length places → count ≡ ports_in (take (i + 1) rows)
long_more rows net i count p places inside places_are so_far all =
    let row : (row : NodeRow) × (slice_get rows i ≡ Some row) = item_at rows i inside in
    omega (
      arith,
      so_far,
      all,
      ap length places_are,
      beside_length rows net i row.0 row.1,
      ports_more rows i row.0 row.1,
    )
