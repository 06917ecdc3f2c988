-- The labels in a store with room, and what a watch is seen as.
use Rattle.std.proofs.Common.{◌≡◌, ◌≢◌, ◌∙◌, Option, ℕ, zero, suc, ◌+◌, ◌-◌, ◌<◌, ◌≤◌, nat_le, nat_lt, Bool, false, List, [], ◌∷◌, ◌++◌, length, take, get_or, set, Some, replicate, slice_get, refl, sym, ap, subst, arith, append-nil, length-append}
use Rattle.std.specs.List.{sum_by}
use Rattle.std.proofs.lemmas.Grind.{flat_map-append}
use Rattle.std.proofs.lemmas.List.{get_or-set_same, get_or-set_other, length-set, map-append}
use Rattle.std.proofs.lemmas.List.Sums.{sum_by_push}
use Rattle.std.proofs.lemmas.Option.{slice_get_within}
use Rattle.pls_configuration.specs.declared.row.NodeRow.{NodeRow}
use Rattle.pls_configuration.specs.Configuration.{IsNetwork}
use Rattle.pls_graph.proofs.Placed.{place_of_row}
use Rattle.pls_labels.specs.Seen.{label_of}
use Rattle.pls_labels.specs.Stored.{Stored, cost}
use Rattle.pls_labels.proofs.Views.{label_at as label_placed}
use Rattle.pls_schedule.specs.declared.event.Event.{Event}
use Rattle.pls_schedule.specs.declared.event.Event.TheVariants.{Emit, Arrive, Restart}
use Rattle.pls_watch_part.specs.declared.watch_event.WatchEvent.{WatchEvent}
use Rattle.pls_watch_part.specs.declared.watch_event.WatchEvent.TheVariants as Watches
use Rattle.pls_watch_part.specs.WatchText.{watch_event}
use Rattle.pls_watch.specs.declared.turn.Turn.{Turn}
use Rattle.pls_watch.specs.declared.turn.Turn.TheVariants.{Plain, Relabel}
use Rattle.pls_watch.specs.Labelled.{bits_given, given_by, labels_given, turn_of, turns_of}
use Rattle.pls_watch.specs.Turning.{Turned, turning}
use Rattle.pls_watch.specs.Versions.{held, newest}
use Rattle.pls_watch.specs.Versions as Versions
use Rattle.pls_watch.specs.Watching.{Watched, lacks_room, turned_of, version_of_label, watching}
use Rattle.pls_watch.specs.inner.Current.{KnowsSame}
use Rattle.pls_watch.specs.inner.Numbers.{IsLabel, relabelled}
use Rattle.pls_watch.specs.inner.Stock.{IsStocked, events_of, given_label, watched_by}
use Rattle.pls_watch.proofs.Numbers.{relabelled_more}
use Rattle.pls_watch.proofs.Spelled.{spelled_count, spelled_label, spelled_more, spelled_same, spelled_turns, take_set}
use Rattle.pls_watch.proofs.Room.{above, neither, no_more}

-- an item at the front of a list
take_get : (labels : List (List Bool)) (count at : ℕ) → at < count → count ≤ length labels
    → slice_get (take count labels) at ≡ Some (get_or labels at [])
take_get labels zero at under long = absurd (omega (arith, under))
take_get [] (suc count) at under long = absurd (omega (arith, long))
take_get (label ∷ labels) (suc count) zero under long = refl
take_get (label ∷ labels) (suc count) (suc at) under long =
    take_get labels count at (omega (arith, under)) (omega (arith, long))

module _ (turned : Turned) (stored : Stored) (relabels bits : ℕ) where
  abbrev nodes : ℕ
  nodes = length turned.network

  abbrev events : List WatchEvent
  events = events_of turned stored.labels

  -- the turns of the events that were taken
  pub turns_are : turns_of events ≡ turned.turns
  turns_are = spelled_turns (given_label nodes stored.labels) 0 turned.turns

  pub turned_same : turned_of (watched_by turned stored relabels bits) ≡ turned
  turned_same = λ i. record {
    network = turned.network;
    most = turned.most;
    turns = turns_are i;
  }

  -- a node that holds what it held and got no label, seen from outside
  pub knows_same : (seen : Watched) → watched_by turned stored relabels bits ≡ seen
      → (event : WatchEvent) (turn : Turn) → turn_of event ≡ turn → (i : ℕ) (row : NodeRow)
      → slice_get seen.network i ≡ Some row → (place : Option ℕ) → place ≢ Some i
      → ((i : ℕ) (row : NodeRow) (neighbour : ℕ) → slice_get turned.network i ≡ Some row
      → place ≢ Some i
      → held turned.network (turned.turns ++ turn ∷ []) row.id neighbour
      ≡ held turned.network turned.turns row.id neighbour)
      → ((i : ℕ) (row : NodeRow) → slice_get turned.network i ≡ Some row → place ≢ Some i
      → Versions.relabels row.id turn ≡ false)
      → KnowsSame seen event row.id
  knows_same seen is event turn same i row stands place differs holds stays =
      let network = ap (λ (watched : Watched). watched.network) is in
      let there : slice_get turned.network i ≡ Some row =
      ap (λ (rows : List NodeRow). slice_get rows i) network ∙ stands in
      let were : turns_of seen.events ≡ turned.turns =
      ap (λ (watched : Watched). turns_of watched.events) (sym is) ∙ turns_are in
      let grown : turns_of (seen.events ++ event ∷ []) ≡ turned.turns ++ turn ∷ [] =
      map-append turn_of seen.events (event ∷ []) ∙ (λ k. were k ++ same k ∷ []) in
      record {
        holds = λ neighbour. (λ k. held (sym network k) (grown k) row.id neighbour)
            ∙ holds i row neighbour there differs
            ∙ (λ k. held (network k) (sym were k) row.id neighbour);
        stays = ap (Versions.relabels row.id) same ∙ stays i row there differs;
      }

  -- one more event that gives no label
  module _ (event : Event) where
    pub watched_play : watched_by (turning (Plain event) turned) stored relabels bits
        ≡ watching (watch_event event) (watched_by turned stored relabels bits)
    watched_play =
        ap (λ (events : List WatchEvent). record (watched_by turned stored relabels bits) {
          events
              = events;
        })
        (spelled_more (given_label nodes stored.labels) 0 turned.turns (Plain event))

    none_more : labels_given (events ++ watch_event event ∷ []) ≡ labels_given events
    none_more =
        flat_map-append given_by events (watch_event event ∷ [])
        ∙ ap (λ (last : List (List Bool)). labels_given events ++ last) (by event)
        ∙ append-nil (labels_given events)
      where
        by : (event : Event) → labels_given (watch_event event ∷ []) ≡ []
        by (Emit node port) = refl
        by (Arrive number) = refl
        by (Restart node) = refl

    pub stocked_play : (rows : List NodeRow) (given given_bits : ℕ)
        → IsStocked rows turned stored relabels bits given given_bits
        → IsStocked rows (turning (Plain event) turned) stored relabels bits given given_bits
    stocked_play rows given given_bits stocked = record {
      valid = stocked.valid;
      network = stocked.network;
      long = stocked.long;
      count = stocked.count ∙ sym (ap length (relabelled_more turned.turns (Plain event)
          ∙ append-nil (relabelled turned.turns)));
      few = stocked.few;
      sum = stocked.sum ∙ sym (ap (sum_by length) (ap labels_given
          (spelled_more (given_label nodes stored.labels) 0 turned.turns (Plain event))
          ∙ none_more));
      few_bits = stocked.few_bits;
      room = stocked.room;
      small = stocked.small;
      small_bits = stocked.small_bits;
    }

  module _ (rows : List NodeRow) (given given_bits : ℕ)
      (stocked : IsStocked rows turned stored relabels bits given given_bits) where
    same_nodes : nodes ≡ length rows
    same_nodes = ap length stocked.network

    -- how many labels were given, and their bits
    pub count_is : length (labels_given events) ≡ given
    count_is = spelled_count (given_label nodes stored.labels) 0 turned.turns ∙ sym stocked.count

    -- a label with a number stands in the store
    pub label_in_store : (node version number : ℕ) → IsLabel turned.network turned.turns node
        version number
        → get_or stored.labels number []
        ≡ version_of_label (watched_by turned stored relabels bits) node version
    label_in_store node zero number is =
        let inside = slice_get_within turned.network number is.0 is.1 in
        sym (ap (label_of turned.network (take nodes stored.labels)) (sym is.2)
        ∙ label_placed turned.network (take nodes stored.labels) is.0.id number (get_or
        stored.labels number [])
        (place_of_row turned.network stocked.valid number is.0 is.1)
        (take_get stored.labels nodes number inside (omega (arith, stocked.long, same_nodes))))
    label_in_store node (suc before) number is =
        let start : is.0 ≡ 0 + is.0 = omega arith in
        ap (λ (number : ℕ). get_or stored.labels number []) is.1
        ∙ ap (given_label nodes stored.labels) start
        ∙ sym (spelled_label (given_label nodes stored.labels) turned.turns 0 node before is.0 is.2)

    -- as it is seen
    pub label_seen : (seen : Watched) → watched_by turned stored relabels bits ≡ seen
        → (node version number : ℕ) → IsLabel seen.network (turns_of seen.events) node version
        number
        → get_or stored.labels number [] ≡ version_of_label seen node version
    label_seen seen is =
        subst (λ (seen : Watched). (node version number : ℕ)
        → IsLabel seen.network (turns_of seen.events) node version number
        → get_or stored.labels number [] ≡ version_of_label seen node version) is
        (λ node version number label. label_in_store node version number
        (subst (λ (turns : List Turn). IsLabel turned.network turns node version number) turns_are
        label))

    -- what is said of it is said of what is seen
    module _ (seen : Watched) (is : watched_by turned stored relabels bits ≡ seen) where
      pub network_seen : rows ≡ seen.network
      network_seen = sym stocked.network ∙ ap (λ (seen : Watched). seen.network) is

      pub valid_seen : IsNetwork seen.network
      valid_seen = subst (λ (seen : Watched). IsNetwork seen.network) is stocked.valid

      pub few_seen : length (relabelled (turns_of seen.events)) ≤ seen.most_relabels
      few_seen =
          subst (λ (seen : Watched). length (relabelled (turns_of seen.events)) ≤ seen.most_relabels) is
          (omega (
            arith,
            ap (λ (turns : List Turn). length (relabelled turns)) turns_are,
            stocked.count,
            stocked.few,
          ))

      pub is_label_seen : (node version number : ℕ)
          → IsLabel turned.network turned.turns node version number
          → IsLabel seen.network (turns_of seen.events) node version number
      is_label_seen node version number label =
          subst (λ (seen : Watched). IsLabel seen.network (turns_of seen.events) node version
          number) is
          (subst (λ (turns : List Turn). IsLabel turned.network turns node version number) (sym
          turns_are)
          label)

      pub held_seen : (node neighbour : ℕ) → held turned.network turned.turns node neighbour
          ≡ held seen.network (turns_of seen.events) node neighbour
      held_seen node neighbour =
          ap (λ (turns : List Turn). held turned.network turns node neighbour) (sym turns_are)
          ∙ ap (λ (seen : Watched). held seen.network (turns_of seen.events) node neighbour) is

      pub newest_seen : (node : ℕ) → newest turned.turns node ≡ newest (turns_of seen.events) node
      newest_seen node =
          ap (λ (turns : List Turn). newest turns node) (sym turns_are)
          ∙ ap (λ (seen : Watched). newest (turns_of seen.events) node) is

      pub stands_seen : (i : ℕ) (row : NodeRow) → slice_get seen.network i ≡ Some row
          → slice_get turned.network i ≡ Some row
      stands_seen i row stands =
          ap (λ (seen : Watched). slice_get seen.network i) is ∙ stands

    -- and there are as many as the store has
    pub number_within : (number : ℕ) → number < nodes + length (relabelled turned.turns)
        → number < length stored.labels
    number_within number inside =
        omega (arith, inside, stocked.long, same_nodes, stocked.count, stocked.few)

    -- where there is room for a label
    pub has_room : (node : ℕ) (label : List Bool)
        → lacks_room (watched_by turned stored relabels bits) (Watches.Relabel node label) ≡ false
        → (given < relabels) × (length label ≤ bits - given_bits)
    has_room node label room =
        let both = neither (nat_le relabels (length (labels_given events)))
        (nat_lt bits (bits_given events + length label)) room in (
          omega (arith, count_is, above relabels (length (labels_given events)) both.0),
          omega (arith, stocked.sum, no_more bits (bits_given events + length label) both.1),
        )

    -- one more label
    module _ (node : ℕ) (label : List Bool) (after : Stored)
        (placed : after.labels ≡ set stored.labels (length rows + given) label)
        (spent : after.spare + cost (length label) ≡ stored.spare)
        (few : given < relabels) (small : length label ≤ bits - given_bits) where
      at_place : (at : ℕ) → given_label nodes after.labels at
          ≡ get_or (set stored.labels (nodes + length (relabelled turned.turns)) label) (nodes +
          at) []
      at_place at =
          ap (λ (labels : List (List Bool)). get_or labels (nodes + at) []) placed
          ∙ ap (λ (number : ℕ). get_or (set stored.labels number label) (nodes + at) [])
          (omega (arith, same_nodes, stocked.count))

      here : given_label nodes after.labels (length (relabelled turned.turns)) ≡ label
      here =
          at_place (length (relabelled turned.turns))
          ∙ get_or-set_same stored.labels (nodes + length (relabelled turned.turns)) label []
          (omega (arith, stocked.long, same_nodes, stocked.count, few))

      elsewhere : (at : ℕ) → at < length (relabelled turned.turns)
          → given_label nodes after.labels at ≡ given_label nodes stored.labels at
      elsewhere at under =
          at_place at
          ∙ get_or-set_other stored.labels (nodes + length (relabelled turned.turns)) (nodes + at)
          label []
          (λ (same : nodes + at ≡ nodes + length (relabelled turned.turns)). omega (
            arith,
            under,
            same,
          ))

      pub events_relabel : events_of (turning (Relabel node) turned) after.labels
          ≡ events ++ Watches.Relabel node label ∷ []
      events_relabel =
          let spelt = spelled_more (given_label nodes after.labels) 0 turned.turns (Relabel node) in
          let front = spelled_same (given_label nodes after.labels) (given_label nodes
          stored.labels) 0
          turned.turns (λ at from to. elsewhere at (omega (arith, to))) in
          let start : 0 + length (relabelled turned.turns) ≡ length (relabelled turned.turns) =
          omega arith in
          let last = ap (given_label nodes after.labels) start ∙ here in
          spelt ∙ λ i. front i ++ Watches.Relabel node (last i) ∷ []

      pub watched_relabel : watched_by (turning (Relabel node) turned) after relabels bits
          ≡ watching (Watches.Relabel node label) (watched_by turned stored relabels bits)
      watched_relabel =
          let start : take nodes after.labels ≡ take nodes stored.labels =
          ap (take nodes) placed
          ∙ take_set stored.labels nodes (length rows + given) label (omega (arith, same_nodes)) in
          let taken = events_relabel in
          λ i. record {
            network = turned.network;
            start = start i;
            most = turned.most;
            most_relabels = relabels;
            most_bits = bits;
            events = taken i;
          }

      pub stocked_relabel : IsStocked rows (turning (Relabel node) turned) after relabels bits
          (given + 1)
          (given_bits + length label)
      stocked_relabel = record {
        valid = stocked.valid;
        network = stocked.network;
        long = ap length placed ∙ length-set stored.labels (length rows + given) label ∙
            stocked.long;
        count =
            let many = ap length (relabelled_more turned.turns (Relabel node)) in
            omega (arith, stocked.count, many, length-append (relabelled turned.turns) (node ∷ []));
        few = omega (arith, few);
        sum =
            let all = ap labels_given events_relabel
            ∙ flat_map-append given_by events (Watches.Relabel node label ∷ []) in
            let sum = sum_by_push (length {A = Bool}) (labels_given events) label in
            omega (arith, stocked.sum, sum, ap (sum_by (length {A = Bool})) all);
        few_bits = omega (arith, small, stocked.few_bits);
        room = omega (arith, stocked.room, spent);
        small = stocked.small;
        small_bits = stocked.small_bits;
      }

    -- there is room for it
    pub room_for : (len : ℕ) → given < relabels → len ≤ bits - given_bits → cost len ≤ stored.spare
    room_for len few small = omega (arith, few, small, stocked.room, stocked.few_bits)

-- one more label of a list stands in the place of an empty one
pub stock_more : (labels : List (List Bool)) (at count : ℕ) (label : List Bool)
    → slice_get labels at ≡ Some label
    → set (take at labels ++ replicate (suc count) []) at label
    ≡ take (suc at) labels ++ replicate count []
stock_more [] at count label is = absurd (cc)
stock_more (first ∷ labels) zero count label is =
    let same : label ≡ first = cc in
    ap (λ (label : List Bool). label ∷ replicate count []) same
stock_more (first ∷ labels) (suc at) count label is =
    ap (λ (others : List (List Bool)). first ∷ others) (stock_more labels at count label is)
