-- The turns after one more event or label.
use Rattle.std.proofs.Common.{◌≡◌, ◌∙◌, ℕ, suc, ◌+◌, ◌<◌, ◌≤◌, ◌==◌, Bool, true, false, cond, All, List, [], ◌∷◌, ◌++◌, length, map, get_or, refl, subst, sym, ap, arith, append_assoc, append-nil, length-append}
use Rattle.std.proofs.lemmas.Bool.{eq-eqb, ne_eqb}
use Rattle.std.proofs.lemmas.Grind.{flat_map-append}
use Rattle.std.proofs.lemmas.List.{get_or-map}
use Rattle.std.proofs.lemmas.List.Elements.{All-push}
use Rattle.pls_schedule.specs.declared.event.Event.{Event}
use Rattle.pls_sim.specs.Applying.{Played, taking}
use Rattle.pls_watch.specs.declared.giving.Giving.{Giving}
use Rattle.pls_watch.specs.declared.turn.Turn.{Turn}
use Rattle.pls_watch.specs.declared.turn.Turn.TheVariants.{Plain, Relabel}
use Rattle.pls_watch.specs.inner.Woven.{AreWoven, given_behind, woven, woven_from}

-- nothing is given behind more events than were before each
none_behind : (count : ℕ) (givings : List Giving) → All (λ giving. giving.behind < count) givings
    → given_behind count givings ≡ []
none_behind count [] all = refl
none_behind count (giving ∷ givings) all =
    let other : (giving.behind == count) ≡ false =
    ne_eqb giving.behind count (λ same. omega (arith, same, all 0 giving (omega arith))) in
    rw (other) (none_behind count givings (λ k d within. all (suc k) d (omega (arith, within))))

-- one more event
event_from : (count : ℕ) (events : List Event) (givings : List Giving) (event : Event)
    → All (λ giving. giving.behind ≤ count + length events) givings
    → woven_from count (events ++ event ∷ []) givings
    ≡ woven_from count events givings ++ Plain event ∷ []
event_from count [] givings event all =
    ap (λ (last : List Turn). given_behind count givings ++ Plain event ∷ last)
    (none_behind (count + 1) givings (λ k d within. omega (arith, all k d within)))
event_from count (first ∷ events) givings event all =
    let given = given_behind count givings in
    ap (λ (rest : List Turn). given ++ Plain first ∷ rest)
    (event_from (count + 1) events givings event (λ k d within. omega (arith, all k d within)))
    ∙ sym (append_assoc given (Plain first ∷ woven_from (count + 1) events givings)
    (Plain event ∷ []))

pub woven_event : (events : List Event) (givings : List Giving) (event : Event)
    → AreWoven events givings
    → woven (events ++ event ∷ []) givings ≡ woven events givings ++ Plain event ∷ []
woven_event events givings event are =
    event_from 0 events givings event (λ k d within. omega (arith, are.behind k d within))

-- one more label, behind all events
giving_at : (count : ℕ) (givings : List Giving) (giving : Giving) (b : Bool)
    → (giving.behind == count) ≡ b
    → given_behind count (givings ++ giving ∷ [])
    ≡ given_behind count givings ++ cond b (Relabel giving.node ∷ []) []
giving_at count givings giving b is =
    flat_map-append (λ (giving : Giving). cond (giving.behind == count) (Relabel giving.node ∷ []) [])
    givings (giving ∷ [])
    ∙ ap (λ (last : List Turn). given_behind count givings ++ last)
    (append-nil (cond (giving.behind == count) (Relabel giving.node ∷ []) [])
    ∙ ap (λ (b : Bool). cond b (Relabel giving.node ∷ []) []) is)

giving_from : (count : ℕ) (events : List Event) (givings : List Giving) (giving : Giving)
    → giving.behind ≡ count + length events
    → woven_from count events (givings ++ giving ∷ [])
    ≡ woven_from count events givings ++ Relabel giving.node ∷ []
giving_from count [] givings giving last =
    giving_at count givings giving true (eq-eqb giving.behind count (omega (arith, last)))
giving_from count (event ∷ events) givings giving last =
    let given = given_behind count givings in
    let here : given_behind count (givings ++ giving ∷ []) ≡ given =
    giving_at count givings giving false
    (ne_eqb giving.behind count (λ same. omega (arith, same, last))) ∙ append-nil given in
    (λ i. here i ++ Plain event
    ∷ giving_from (count + 1) events givings giving (omega (arith, last)) i)
    ∙ sym (append_assoc given (Plain event ∷ woven_from (count + 1) events givings)
    (Relabel giving.node ∷ []))

pub woven_giving : (events : List Event) (givings : List Giving) (giving : Giving)
    → giving.behind ≡ length events
    → woven events (givings ++ giving ∷ []) ≡ woven events givings ++ Relabel giving.node ∷ []
woven_giving events givings giving last =
    giving_from 0 events givings giving (omega (arith, last))

-- what is true of the turns stays so
pub more_givings : (events : List Event) (givings : List Giving) (giving : Giving)
    → giving.behind ≡ length events → AreWoven events givings
    → AreWoven events (givings ++ giving ∷ [])
more_givings events givings giving last are = record {
  behind = All-push (λ giving. giving.behind ≤ length events) givings giving are.behind
      (omega (arith, last));
  count =
      ap (length {A = Turn}) (woven_giving events givings giving last)
      ∙ length-append (woven events givings) (Relabel giving.node ∷ [])
      ∙ omega (arith, are.count, length-append givings (giving ∷ []));
}

module _ (old new : Played) (givings : List Giving) (event : Event) (is : new ≡ taking event old)
    (are : AreWoven old.events givings) where
  abbrev now : List Event
  now = old.events ++ event ∷ []

  same : new.events ≡ now
  same = ap (λ (played : Played). played.events) is

  pub turns_after : woven new.events givings ≡ woven old.events givings ++ Plain event ∷ []
  turns_after =
      ap (λ (events : List Event). woven events givings) same
      ∙ woven_event old.events givings event are

  pub woven_after : AreWoven new.events givings
  woven_after =
      let many : length now ≡ length old.events + 1 = length-append old.events (event ∷ []) in
      subst (λ (events : List Event). AreWoven events givings) (sym same)
      (record {
        behind = λ k d within. omega (arith, many, are.behind k d within);
        count =
            ap (length {A = Turn}) (woven_event old.events givings event are)
            ∙ length-append (woven old.events givings) (Plain event ∷ [])
            ∙ omega (arith, are.count, many);
      })

-- the number of the label before is read beside the node
pub earlier_at : (givings : List Giving) (place : ℕ) (giving : Giving) → place < length givings
    → giving ≡ get_or givings place giving
    → get_or (map (λ giving. giving.earlier) givings) place 0 ≡ giving.earlier
earlier_at givings place giving within is =
    get_or-map (λ (giving : Giving). giving.earlier) givings place giving 0 within
    ∙ ap (λ (giving : Giving). giving.earlier) (sym is)
