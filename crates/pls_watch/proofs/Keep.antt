-- What is kept after one more turn.
use Rattle.std.proofs.Common.{◌≡◌, ◌≢◌, ◌∙◌, ℕ, zero, suc, ◌+◌, ◌<◌, Bool, true, false, ◌==◌, cond, List, [], ◌∷◌, ◌++◌, length, replicate, get_or, set, Some, slice_get, refl, sym, ap, arith, append-nil, length-append}
use Rattle.std.specs.List.{AllByRecursion}
use Rattle.std.proofs.lemmas.Bool.{eqb-true, eqb-false}
use Rattle.std.proofs.lemmas.List.{get_or-set_same, get_or-set_other, length-replicate, length-set}
use Rattle.std.proofs.lemmas.Option.{same_Some, slice_get_within}
use Rattle.pls_configuration.specs.declared.row.NodeRow.{NodeRow}
use Rattle.pls_configuration.specs.Configuration.{IsNetwork, ports_in}
use Rattle.pls_graph.proofs.Beside.{one_place}
use Rattle.pls_schedule.specs.declared.event.Event.{Event}
use Rattle.pls_schedule.specs.declared.event.Event.TheVariants.{Emit, Restart}
use Rattle.pls_sim.specs.Schedule.{Sent, emits_of, sent_by}
use Rattle.pls_sim.specs.Applying.{Played, taking}
use Rattle.pls_sim.specs.inner.Kept.{NamesEmit}
use Rattle.pls_sim.specs.Ways.{IsPlaceOf}
use Rattle.pls_sim.proofs.Keeping.{one_numbered}
use Rattle.pls_watch.specs.declared.turn.Turn.{Turn}
use Rattle.pls_watch.specs.declared.turn.Turn.TheVariants.{Plain, Relabel}
use Rattle.pls_watch.specs.Versions.{carried, newest, plain_of}
use Rattle.pls_watch.specs.inner.Held.{AreHeld, AreKept, AreNewest, IsRound, Rooms}
use Rattle.pls_watch.proofs.More.{before_emit, before_restart, carried_more, carried_quiet, emits_plain, held_relabel, newest_more, plain_more}

turns_more : (turns : List Turn) (turn : Turn) → length (turns ++ turn ∷ []) ≡ length turns + 1
turns_more turns turn = length-append turns (turn ∷ [])

-- there is room for the next turn
pub rooms_more : (most turn_room sent_room : ℕ) (turns : List Turn) (turn : Turn)
    → length turns < most → Rooms most turns turn_room sent_room
    → Rooms most (turns ++ turn ∷ []) turn_room sent_room
rooms_more most turn_room sent_room turns turn before has = record {
  few = omega (arith, before, turns_more turns turn);
  for_turns = has.for_turns;
  for_sent = has.for_sent;
}

-- the round after one more event
pub round_more : (rows : List NodeRow) (most : ℕ) (turns : List Turn) (event : Event)
    (old new : Played) → new ≡ taking event old → IsRound rows most turns old
    → IsRound rows most (turns ++ Plain event ∷ []) new
round_more rows most turns event old new is round = record {
  network = ap (λ (played : Played). played.network) is ∙ round.network;
  most_is = ap (λ (played : Played). played.most) is ∙ round.most_is;
  events =
      ap (λ (played : Played). played.events) is
      ∙ ap (λ (events : List Event). events ++ event ∷ []) round.events
      ∙ sym (plain_more turns (Plain event));
}

pub round_relabel : (rows : List NodeRow) (most : ℕ) (turns : List Turn) (node : ℕ)
    (played : Played) → IsRound rows most turns played
    → IsRound rows most (turns ++ Relabel node ∷ []) played
round_relabel rows most turns node played round = record {
  network = round.network;
  most_is = round.most_is;
  events = round.events ∙ sym (plain_more turns (Relabel node) ∙ append-nil (plain_of turns));
}

module _ (rows : List NodeRow) (turns : List Turn)
    (versions sent holds : List ℕ) (kept : AreKept rows turns versions sent holds) where
  abbrev net : IsNetwork rows
  net = kept.is_network

  abbrev emits : List Sent
  emits = emits_of (plain_of turns)

  -- after an event
  module _ (event : Event) where
    emits_now : emits_of (plain_of (turns ++ Plain event ∷ [])) ≡ emits ++ sent_by event
    emits_now = emits_plain turns event

    numbered_now : NamesEmit (length (emits ++ sent_by event)) event
        → AllByRecursion (NamesEmit (length (emits_of (plain_of (turns ++ Plain event ∷ [])))))
        (plain_of (turns ++ Plain event ∷ []))
    numbered_now is =
        rw (emits_now, plain_more turns (Plain event))
        (one_numbered (length emits) (length (emits ++ sent_by event))
        (omega (arith, length-append emits (sent_by event))) (plain_of turns) event kept.numbered
        is)

    newest_now : AreNewest rows (turns ++ Plain event ∷ []) versions
    newest_now place row at =
        kept.are_newest place row at ∙ omega (arith, newest_more turns (Plain event) row.id)

  -- after an event that emits nothing
  module _ (event : Event) (none : sent_by event ≡ []) (few : NamesEmit (length emits) event)
      (now : List ℕ) (long : length now ≡ length holds)
      (are : AreHeld rows (turns ++ Plain event ∷ []) now) where
    same : emits ++ sent_by event ≡ emits
    same = ap (λ (last : List Sent). emits ++ last) none ∙ append-nil emits

    pub kept_quiet : AreKept rows (turns ++ Plain event ∷ []) versions sent now
    kept_quiet = record {
      is_network = net;
      numbered = numbered_now event (rw same few);
      each_node = kept.each_node;
      are_newest = newest_now event;
      are_carried = kept.are_carried ∙ sym (carried_quiet turns event none);
      each_port = long ∙ kept.each_port;
      are_held = are;
    }

  -- after a restart
  held_restart : (node : ℕ) → AreHeld rows (turns ++ Plain (Restart node) ∷ []) holds
  held_restart node number other neighbour version s is =
      kept.are_held number other neighbour version s
      (before_restart rows turns node other neighbour version kept.numbered is)

  pub kept_restart : (node : ℕ) → AreKept rows (turns ++ Plain (Restart node) ∷ []) versions sent
      holds
  kept_restart node = kept_quiet (Restart node) refl tt holds refl (held_restart node)

  -- after a relabel
  pub kept_relabel : (node place : ℕ) (row : NodeRow) → slice_get rows place ≡ Some row
      → row.id ≡ node
      → AreKept rows (turns ++ Relabel node ∷ []) (set versions place (get_or versions place 0 + 1))
      sent holds
  kept_relabel node place row at is =
      let same : plain_of (turns ++ Relabel node ∷ []) ≡ plain_of turns =
      plain_more turns (Relabel node) ∙ append-nil (plain_of turns) in record {
        is_network = net;
        numbered = rw same kept.numbered;
        each_node = length-set versions place (get_or versions place 0 + 1) ∙ kept.each_node;
        are_newest = newest_now;
        are_carried = kept.are_carried
            ∙ sym (carried_more turns (Relabel node) ∙ append-nil (carried turns));
        each_port = kept.each_port;
        are_held = λ number other neighbour version s is.
            kept.are_held number other neighbour version s
            (sym (held_relabel rows turns node other neighbour) ∙ is);
      }
    where
      newest_now : AreNewest rows (turns ++ Relabel node ∷ [])
          (set versions place (get_or versions place 0 + 1))
      newest_now i other there =
          by (node == other.id) refl
          ∙ sym (newest_more turns (Relabel node) other.id)
        where
          by : (b : Bool) → (node == other.id) ≡ b
              → get_or (set versions place (get_or versions place 0 + 1)) i 0
              ≡ newest turns other.id + cond b 1 0
          by true e =
              let here : i ≡ place = one_place rows net i place other row there at
              (sym (eqb-true node other.id e) ∙ sym is) in
              let within : place < length versions =
              omega (arith, slice_get_within rows place row at, kept.each_node) in
              rw (here, get_or-set_same versions place (get_or versions place 0 + 1) 0 within)
              (ap (λ (n : ℕ). n + 1) (ap (λ (i : ℕ). get_or versions i 0) (sym here)
              ∙ kept.are_newest i other there))
          by false e =
              let differs : i ≢ place = λ same. eqb-false node other.id e
              (sym is ∙ ap (λ (row : NodeRow). row.id)
              (same_Some row other (sym at ∙ ap (slice_get rows) (sym same) ∙ there))) in
              rw (get_or-set_other versions place i (get_or versions place 0 + 1) 0 differs)
              (kept.are_newest i other there ∙ omega arith)

  -- after an emit
  module _ (node port from : ℕ) (at : IsPlaceOf rows node from) where
    abbrev version : ℕ
    version = get_or versions from 0

    version_is : version ≡ newest turns node
    version_is = kept.are_newest from at.row at.stands ∙ ap (newest turns) at.is

    pub kept_emit : AreKept rows (turns ++ Plain (Emit node port) ∷ []) versions
        (sent ++ version ∷ []) holds
    kept_emit = record {
      is_network = net;
      numbered = numbered_now (Emit node port) tt;
      each_node = kept.each_node;
      are_newest = newest_now (Emit node port);
      are_carried =
          ap (λ (version : ℕ). sent ++ version ∷ []) version_is
          ∙ ap (λ (sent : List ℕ). sent ++ newest turns node ∷ []) kept.are_carried
          ∙ sym (carried_more turns (Plain (Emit node port)));
      each_port = kept.each_port;
      are_held = λ number other neighbour version s is.
          kept.are_held number other neighbour version s
          (before_emit rows turns node port other neighbour version kept.numbered is);
    }

-- a list of noughts
nought : (count place : ℕ) → get_or (replicate {A = ℕ} count 0) place 0 ≡ 0
nought zero place = refl
nought (suc count) zero = refl
nought (suc count) (suc place) = nought count place

-- what is kept before the first turn
pub kept_start : (rows : List NodeRow) (versions holds : List ℕ) → IsNetwork rows
    → versions ≡ replicate (length rows) 0 → length holds ≡ ports_in rows
    → AreKept rows [] versions [] holds
kept_start rows versions holds valid are long = record {
  is_network = valid;
  numbered = tt;
  each_node = ap length are ∙ length-replicate (length rows) 0;
  are_newest = λ place row at.
      ap (λ (versions : List ℕ). get_or versions place 0) are ∙ nought (length rows) place;
  are_carried = refl;
  each_port = long;
  are_held = λ number node neighbour version slot is. absurd (cc);
}
