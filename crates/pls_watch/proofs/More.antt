-- What one more turn changes.
use Rattle.std.proofs.Common.{◌≡◌, ◌∙◌, ℕ, zero, suc, ◌+◌, ◌≤◌, ◌==◌, Bool, true, false, ◌||◌, cond, max, List, [], ◌∷◌, ◌++◌, filter, flat_map, length, Option, Some, None, is_some, refl, sym, ap, arith, append-nil, length-append}
use Rattle.std.specs.List.{AllByRecursion, list_any}
use Rattle.std.specs.Option.{option_map_or}
use Rattle.std.proofs.lemmas.Grind.{flat_map-append}
use Rattle.std.proofs.lemmas.List.{append_assoc, get_or_append_left, length-map}
use Rattle.std.proofs.lemmas.List.Elements.{filter-append}
use Rattle.pls_configuration.specs.declared.row.NodeRow.{NodeRow}
use Rattle.pls_schedule.specs.declared.event.Event.{Event}
use Rattle.pls_schedule.specs.declared.event.Event.TheVariants.{Emit, Arrive, Restart}
use Rattle.pls_sim.specs.Schedule.{Sent, brings, emits_of, has_heard, restarts, sent_by, since_restart}
use Rattle.pls_sim.specs.inner.Kept.{NamesEmit}
use Rattle.pls_sim.proofs.Heard.{brings_kept, emits_more, since_all, since_more}
use Rattle.pls_watch.specs.declared.turn.Turn.{Turn}
use Rattle.pls_watch.specs.declared.turn.Turn.TheVariants.{Plain, Relabel}
use Rattle.pls_watch.specs.Versions.{arrived, brought, carried, carried_by, carried_from, greatest_in, held, newest, plain, plain_of, relabels, version_at, version_of}

-- one more turn stands behind the others
pub plain_more : (turns : List Turn) (turn : Turn)
    → plain_of (turns ++ turn ∷ []) ≡ plain_of turns ++ plain turn
plain_more turns turn =
    flat_map-append plain turns (turn ∷ [])
    ∙ ap (λ (last : List Event). plain_of turns ++ last) (append-nil (plain turn))

-- a relabel is the next version of its node
pub newest_more : (turns : List Turn) (turn : Turn) (node : ℕ)
    → newest (turns ++ turn ∷ []) node ≡ newest turns node + cond (relabels node turn) 1 0
newest_more turns turn node =
    ap length (filter-append (relabels node) turns (turn ∷ []))
    ∙ length-append (filter (relabels node) turns) (filter (relabels node) (turn ∷ []))
    ∙ ap (λ (n : ℕ). newest turns node + n) (by (relabels node turn))
  where
    by : (b : Bool) → length (cond b (turn ∷ []) []) ≡ cond b 1 0
    by true = refl
    by false = refl

-- what an event emits stands behind the emits before it
pub emits_plain : (turns : List Turn) (event : Event)
    → emits_of (plain_of (turns ++ Plain event ∷ [])) ≡ emits_of (plain_of turns) ++ sent_by event
emits_plain turns event =
    ap emits_of (plain_more turns (Plain event)) ∙ emits_more (plain_of turns) event

-- no node has more versions than there are turns
pub newest_few : (turns : List Turn) (node : ℕ) → newest turns node ≤ length turns
newest_few [] node = omega arith
newest_few (turn ∷ turns) node = by (relabels node turn) (newest_few turns node)
  where
    by : (b : Bool) → newest turns node ≤ length turns
        → length (cond b (turn ∷ filter (relabels node) turns) (filter (relabels node) turns))
        ≤ length (turn ∷ turns)
    by true few = omega (arith, few)
    by false few = omega (arith, few)

-- what one more turn carries stands behind the others
carried_after : (before turns : List Turn) (turn : Turn)
    → carried_from before (turns ++ turn ∷ [])
    ≡ carried_from before turns ++ carried_by (before ++ turns) turn
carried_after before [] turn =
    append-nil (carried_by before turn)
    ∙ ap (λ (before : List Turn). carried_by before turn) (sym (append-nil before))
carried_after before (first ∷ turns) turn =
    ap (λ (later : List ℕ). carried_by before first ++ later)
    (carried_after (before ++ first ∷ []) turns turn
    ∙ ap (λ (all : List Turn). carried_from (before ++ first ∷ []) turns ++ carried_by all turn)
    (append_assoc before (first ∷ []) turns))
    ∙ sym (append_assoc (carried_by before first) (carried_from (before ++ first ∷ []) turns)
    (carried_by (before ++ first ∷ turns) turn))

pub carried_more : (turns : List Turn) (turn : Turn)
    → carried (turns ++ turn ∷ []) ≡ carried turns ++ carried_by turns turn
carried_more turns turn = carried_after [] turns turn

-- nothing is carried where nothing is emitted
pub carried_quiet : (turns : List Turn) (event : Event) → sent_by event ≡ []
    → carried (turns ++ Plain event ∷ []) ≡ carried turns
carried_quiet turns event none = carried_more turns (Plain event) ∙ by event none
  where
    by : (event : Event) → sent_by event ≡ []
        → carried turns ++ carried_by turns (Plain event) ≡ carried turns
    by (Emit node port) none = absurd (cc)
    by (Arrive number) none = append-nil (carried turns)
    by (Restart node) none = append-nil (carried turns)

-- each emit carries one version
many_from : (before turns : List Turn)
    → length (carried_from before turns) ≡ length (emits_of (plain_of turns))
many_from before [] = refl
many_from before (turn ∷ turns) =
    length-append (carried_by before turn) (carried_from (before ++ turn ∷ []) turns)
    ∙ ap (λ (n : ℕ). length (carried_by before turn) + n) (many_from (before ++ turn ∷ []) turns)
    ∙ ap (λ (n : ℕ). n + length (emits_of (plain_of turns)))
    (length-map (flat_map sent_by (plain turn)) (λ (sent : Sent). newest before sent.node))
    ∙ sym (ap length (flat_map-append sent_by (plain turn) (plain_of turns))
    ∙ length-append (flat_map sent_by (plain turn)) (emits_of (plain_of turns)))

pub many_carried : (turns : List Turn) → length (carried turns) ≡ length (emits_of (plain_of turns))
many_carried turns = many_from [] turns

-- the greatest with one number more
abbrev pub with_one : Option ℕ → ℕ → ℕ
with_one most number = option_map_or (λ most. max most number) most number

pub greatest_more : (numbers : List ℕ) (number : ℕ)
    → greatest_in (numbers ++ number ∷ []) ≡ Some (with_one (greatest_in numbers) number)
greatest_more [] number = refl
greatest_more (first ∷ numbers) number =
    ap (λ (most : Option ℕ). Some (option_map_or (max first) most first)) (greatest_more numbers
    number)
    ∙ ap Some (by (greatest_in numbers))
  where
    by : (most : Option ℕ) → max first (with_one most number)
        ≡ max (option_map_or (max first) most first) number
    by None = refl
    by (Some most) = omega arith

-- there is a greatest exactly where some event brings a version
pub some_greatest : (rows : List NodeRow) (emits : List Sent) (versions : List ℕ) (from to : ℕ)
    (events : List Event)
    → list_any (brings rows emits from to) events
    ≡ is_some (greatest_in (flat_map (brought rows emits versions from to) events))
some_greatest rows emits versions from to [] = refl
some_greatest rows emits versions from to (event ∷ events) =
    by (brings rows emits from to event) (some_greatest rows emits versions from to events)
  where
    test : Event → Bool
    test = brings rows emits from to

    later : List ℕ
    later = flat_map (brought rows emits versions from to) events

    by : (b : Bool) → list_any test events ≡ is_some (greatest_in later)
        → (b || list_any test events)
        ≡ is_some (greatest_in (cond b (version_of versions event ∷ []) [] ++ later))
    by true is = refl
    by false is = is

-- a version is held exactly where something was heard
pub heard_held : (rows : List NodeRow) (turns : List Turn) (node neighbour : ℕ)
    → has_heard rows (plain_of turns) node neighbour ≡ is_some (held rows turns node neighbour)
heard_held rows turns node neighbour =
    some_greatest rows (emits_of (plain_of turns)) (carried turns) neighbour node
    (since_restart node (plain_of turns))

-- the version of an emit stays where others come behind
version_kept : (versions more : List ℕ) (number : ℕ) → number ≤ length versions
    → version_at (versions ++ more) number ≡ version_at versions number
version_kept versions more zero few = refl
version_kept versions more (suc place) few =
    get_or_append_left versions more 0 place (omega (arith, few))

module _ (rows : List NodeRow) (emits more : List Sent) (versions others : List ℕ) (from to : ℕ)
    (many : length versions ≡ length emits) where
  brought_kept : (event : Event) → NamesEmit (length emits) event
      → brought rows (emits ++ more) (versions ++ others) from to event
      ≡ brought rows emits versions from to event
  brought_kept event numbered =
      ap (λ (b : Bool). cond b (version_of (versions ++ others) event ∷ []) [])
      (brings_kept rows emits more from to event numbered)
      ∙ ap (λ (version : ℕ). cond (brings rows emits from to event) (version ∷ []) []) (by event
      numbered)
    where
      by : (event : Event) → NamesEmit (length emits) event
          → version_of (versions ++ others) event ≡ version_of versions event
      by (Emit node port) numbered = refl
      by (Arrive number) numbered = version_kept versions others number (omega (
        arith,
        numbered.1,
        many,
      ))
      by (Restart node) numbered = refl

  pub all_brought : (events : List Event) → AllByRecursion (NamesEmit (length emits)) events
      → flat_map (brought rows (emits ++ more) (versions ++ others) from to) events
      ≡ flat_map (brought rows emits versions from to) events
  all_brought [] numbered = refl
  all_brought (event ∷ events) numbered =
      rw (brought_kept event numbered.0, all_brought events numbered.1) refl

-- what a node holds after a relabel
pub held_relabel : (rows : List NodeRow) (turns : List Turn) (other node neighbour : ℕ)
    → held rows (turns ++ Relabel other ∷ []) node neighbour ≡ held rows turns node neighbour
held_relabel rows turns other node neighbour =
    rw (
      plain_more turns (Relabel other),
      append-nil (plain_of turns),
      carried_more turns (Relabel other),
      append-nil (carried turns),
    ) refl

-- what a node holds after an event
pub held_more : (rows : List NodeRow) (turns : List Turn) (event : Event) (node neighbour : ℕ)
    → AllByRecursion (NamesEmit (length (emits_of (plain_of turns)))) (plain_of turns)
    → held rows (turns ++ Plain event ∷ []) node neighbour
    ≡ cond (restarts node event) None
    (greatest_in (arrived rows turns node neighbour
    ++ brought rows (emits_of (plain_of turns) ++ sent_by event)
    (carried turns ++ carried_by turns (Plain event)) neighbour node event))
held_more rows turns event node neighbour numbered =
    rw (
      plain_more turns (Plain event),
      emits_more (plain_of turns) event,
      carried_more turns (Plain event),
      since_more node (plain_of turns) event,
    ) (by (restarts node event))
  where
    since : List Event
    since = since_restart node (plain_of turns)

    bring : Event → List ℕ
    bring =
        brought rows (emits_of (plain_of turns) ++ sent_by event)
        (carried turns ++ carried_by turns (Plain event)) neighbour node

    by : (b : Bool) → greatest_in (flat_map bring (cond b [] (since ++ event ∷ [])))
        ≡ cond b None (greatest_in (arrived rows turns node neighbour ++ bring event))
    by true = refl
    by false =
        ap greatest_in (flat_map-append bring since (event ∷ [])
        ∙ rw (
          all_brought rows (emits_of (plain_of turns)) (sent_by event) (carried turns)
              (carried_by turns (Plain event)) neighbour node (many_carried turns) since
              (since_all (NamesEmit (length (emits_of (plain_of turns)))) node (plain_of turns)
              numbered),
          append-nil (bring event),
        ) refl)

-- each node holds what it held after an emit, and after a restart of another node
pub held_emit : (rows : List NodeRow) (turns : List Turn) (sender port node neighbour : ℕ)
    → AllByRecursion (NamesEmit (length (emits_of (plain_of turns)))) (plain_of turns)
    → held rows (turns ++ Plain (Emit sender port) ∷ []) node neighbour
    ≡ held rows turns node neighbour
held_emit rows turns sender port node neighbour numbered =
    held_more rows turns (Emit sender port) node neighbour numbered
    ∙ ap greatest_in (append-nil (arrived rows turns node neighbour))

pub held_restart : (rows : List NodeRow) (turns : List Turn) (other node neighbour : ℕ)
    → AllByRecursion (NamesEmit (length (emits_of (plain_of turns)))) (plain_of turns)
    → (other == node) ≡ false
    → held rows (turns ++ Plain (Restart other) ∷ []) node neighbour
    ≡ held rows turns node neighbour
held_restart rows turns other node neighbour numbered differs =
    held_more rows turns (Restart other) node neighbour numbered
    ∙ ap (λ (b : Bool). cond b None (greatest_in (arrived rows turns node neighbour ++ []))) differs
    ∙ ap greatest_in (append-nil (arrived rows turns node neighbour))

-- what is held after a restart or an emit was held before it
pub before_restart : (rows : List NodeRow) (turns : List Turn) (node other neighbour version : ℕ)
    → AllByRecursion (NamesEmit (length (emits_of (plain_of turns)))) (plain_of turns)
    → held rows (turns ++ Plain (Restart node) ∷ []) other neighbour ≡ Some version
    → held rows turns other neighbour ≡ Some version
before_restart rows turns node other neighbour version numbered is =
    by (node == other) (sym (held_more rows turns (Restart node) other neighbour numbered) ∙ is)
  where
    by : (b : Bool) → cond b None (greatest_in (arrived rows turns other neighbour ++ [])) ≡ Some
        version
        → held rows turns other neighbour ≡ Some version
    by true is = absurd (cc)
    by false is = ap greatest_in (sym (append-nil (arrived rows turns other neighbour))) ∙ is

pub before_emit : (rows : List NodeRow) (turns : List Turn) (node port other neighbour version : ℕ)
    → AllByRecursion (NamesEmit (length (emits_of (plain_of turns)))) (plain_of turns)
    → held rows (turns ++ Plain (Emit node port) ∷ []) other neighbour ≡ Some version
    → held rows turns other neighbour ≡ Some version
before_emit rows turns node port other neighbour version numbered is =
    ap greatest_in (sym (append-nil (arrived rows turns other neighbour)))
    ∙ sym (held_more rows turns (Emit node port) other neighbour numbered) ∙ is
