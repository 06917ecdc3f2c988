-- The events that turns and the labels in the store spell.
use Rattle.std.proofs.Common.{◌≡◌, ◌∙◌, ℕ, zero, suc, ◌+◌, ◌<◌, ◌≤◌, ◌==◌, Bool, true, false, cond, List, [], ◌∷◌, ◌++◌, filter, length, take, get_or, set, refl, ap, arith}
use Rattle.std.proofs.lemmas.Option.{same_Some}
use Rattle.std.proofs.lemmas.Bool.{eq-eqb}
use Rattle.pls_schedule.specs.declared.event.Event.{Event}
use Rattle.pls_schedule.specs.declared.event.Event.TheVariants.{Emit, Arrive, Restart}
use Rattle.pls_watch_part.specs.declared.watch_event.WatchEvent.{WatchEvent}
use Rattle.pls_watch_part.specs.declared.watch_event.WatchEvent.TheVariants as Watches
use Rattle.pls_watch_part.specs.WatchText.{watch_event}
use Rattle.pls_watch.specs.declared.turn.Turn.{Turn}
use Rattle.pls_watch.specs.declared.turn.Turn.TheVariants.{Plain, Relabel}
use Rattle.pls_watch.specs.Labelled.{labels_given, later_labels, turn_of, turns_of}
use Rattle.pls_watch.specs.inner.Numbers.{IsGiven, relabelled}
use Rattle.pls_watch.specs.inner.Stock.{spelled}

pub turn_watch : (event : Event) → turn_of (watch_event event) ≡ Plain event
turn_watch (Emit node port) = refl
turn_watch (Arrive number) = refl
turn_watch (Restart node) = refl

none_given : (event : Event) (events : List WatchEvent)
    → labels_given (watch_event event ∷ events) ≡ labels_given events
none_given (Emit node port) events = refl
none_given (Arrive number) events = refl
none_given (Restart node) events = refl

none_later : (event : Event) (events : List WatchEvent) (node : ℕ)
    → later_labels (watch_event event ∷ events) node ≡ later_labels events node
none_later (Emit other port) events node = refl
none_later (Arrive number) events node = refl
none_later (Restart other) events node = refl

module _ (label : ℕ → List Bool) where
  -- they are those turns
  pub spelled_turns : (place : ℕ) (turns : List Turn) → turns_of (spelled label place turns) ≡ turns
  spelled_turns place [] = refl
  spelled_turns place (Plain event ∷ turns) =
      let first = turn_watch event in
      let others = spelled_turns place turns in
      λ i. first i ∷ others i
  spelled_turns place (Relabel node ∷ turns) =
      ap (λ (others : List Turn). Relabel node ∷ others) (spelled_turns (place + 1) turns)

  -- and give as many labels
  pub spelled_count : (place : ℕ) (turns : List Turn)
      → length (labels_given (spelled label place turns)) ≡ length (relabelled turns)
  spelled_count place [] = refl
  spelled_count place (Plain event ∷ turns) =
      ap length (none_given event (spelled label place turns)) ∙ spelled_count place turns
  spelled_count place (Relabel node ∷ turns) =
      let others = spelled_count (place + 1) turns in omega (arith, others)

  -- one more turn stands behind the others
  pub spelled_more : (place : ℕ) (turns : List Turn) (turn : Turn)
      → spelled label place (turns ++ turn ∷ [])
      ≡ spelled label place turns ++ spelled label (place + length (relabelled turns)) (turn ∷ [])
  spelled_more place [] turn =
      let same : place ≡ place + 0 = omega arith in
      ap (λ (place : ℕ). spelled label place (turn ∷ [])) same
  spelled_more place (Plain event ∷ turns) turn =
      ap (λ (others : List WatchEvent). watch_event event ∷ others) (spelled_more place turns turn)
  spelled_more place (Relabel node ∷ turns) turn =
      let same : place + 1 + length (relabelled turns) ≡ place + length (relabelled (Relabel node ∷
      turns)) =
      omega arith in
      ap (λ (others : List WatchEvent). Watches.Relabel node (label place) ∷ others)
      (spelled_more (place + 1) turns turn
      ∙ ap (λ (last : ℕ). spelled label (place + 1) turns ++ spelled label last (turn ∷ [])) same)

  -- each label that is given is one of its node
  pub spelled_label : (turns : List Turn) (place node before at : ℕ) → IsGiven turns node before at
      → get_or (later_labels (spelled label place turns) node) before [] ≡ label (place + at)
  spelled_label [] place node before at given = let no = given.at in absurd (cc)
  spelled_label (Plain event ∷ turns) place node before at given =
      ap (λ (labels : List (List Bool)). get_or labels before [])
      (none_later event (spelled label place turns) node)
      ∙ spelled_label turns place node before at (record { at = given.at; count = given.count })
  spelled_label (Relabel other ∷ turns) place node before zero given =
      let same : other ≡ node = same_Some other node given.at in
      let first : place ≡ place + 0 = omega arith in
      rw (eq-eqb other node same, ← given.count) (ap label first)
  spelled_label (Relabel other ∷ turns) place node before (suc at) given =
      by (other == node) (λ count is.
      spelled_label turns (place + 1) node count at (record { at = given.at; count = is }))
      given.count
    where
      others : List (List Bool)
      others = later_labels (spelled label (place + 1) turns) node

      front : List ℕ
      front = filter (λ one. one == node) (take at (relabelled turns))

      next : place + 1 + at ≡ place + suc at
      next = omega arith

      by : (b : Bool)
          → ((count : ℕ) → length front ≡ count → get_or others count [] ≡ label (place + 1 + at))
          → length (cond b (other ∷ front) front) ≡ before
          → get_or (cond b (label place ∷ []) [] ++ others) before [] ≡ label (place + suc at)
      by true deeper is = rw (← is) (deeper (length front) refl ∙ ap label next)
      by false deeper is = deeper before is ∙ ap label next

-- what is spelled rests on the labels that are given alone
pub spelled_same : (label other : ℕ → List Bool) (place : ℕ) (turns : List Turn)
    → ((at : ℕ) → place ≤ at → at < place + length (relabelled turns) → label at ≡ other at)
    → spelled label place turns ≡ spelled other place turns
spelled_same label other place [] same = refl
spelled_same label other place (Plain event ∷ turns) same =
    ap (λ (others : List WatchEvent). watch_event event ∷ others)
    (spelled_same label other place turns same)
spelled_same label other place (Relabel node ∷ turns) same =
    let first = same place (omega arith) (omega arith) in
    let others = spelled_same label other (place + 1) turns
    (λ at from to. same at (omega (arith, from)) (omega (arith, to))) in
    λ i. Watches.Relabel node (first i) ∷ others i

-- the front of a list with another item behind it
pub take_set : {X : Type 0} (xs : List X) (count at : ℕ) (x : X) → count ≤ at
    → take count (set xs at x) ≡ take count xs
take_set xs zero at x few = refl
take_set [] (suc count) at x few = refl
take_set (first ∷ xs) (suc count) zero x few = absurd (omega (arith, few))
take_set (first ∷ xs) (suc count) (suc at) x few =
    ap (λ (others : List _). first ∷ others) (take_set xs count at x (omega (arith, few)))
