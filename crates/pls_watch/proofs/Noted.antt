-- What is noted of the nodes as events come.
use Rattle.std.proofs.Common.{◌≡◌, ◌≢◌, ◌∙◌, ℕ, zero, suc, ◌+◌, ◌<◌, ◌==◌, Bool, true, false, List, [], ◌∷◌, ◌⊎◌, inl, inr, length, replicate, get_or, set, Some, None, slice_get, refl, sym, ap, subst, arith}
use Rattle.std.proofs.lemmas.Bool.{eqb-true, eqb-false}
use Rattle.std.proofs.lemmas.List.{length-set}
use Rattle.std.proofs.lemmas.Option.{same_Some, slice_get-get_or}
use Rattle.pls_configuration.specs.declared.row.Port.{Port}
use Rattle.pls_configuration.specs.declared.row.NodeRow.{NodeRow}
use Rattle.pls_configuration.specs.Configuration.{IsNetwork}
use Rattle.pls_graph.specs.Places.{beside}
use Rattle.pls_graph.proofs.Beside.{one_place}
use Rattle.pls_sim.proofs.Ends.{slot_back}
use Rattle.pls_watch_part.specs.declared.watch_event.WatchEvent.{WatchEvent}
use Rattle.pls_watch.specs.Labelled.{turns_of}
use Rattle.pls_watch.specs.Watching.{Watched}
use Rattle.pls_watch.specs.declared.change.Change.{Change}
use Rattle.pls_watch.specs.declared.change.Change.TheVariants.{Nothing, Beside, Held, Label}
use Rattle.pls_watch.specs.inner.Current.{ArePreviousNoted, IsMoreNoted, IsNoted, holds_previous, is_relabel, keeps_outcome, with_beside, with_held}
use Rattle.pls_watch.proofs.Table.{other_at}

-- an item of a list in which one was replaced
pub set_here : {X : Type 0} (xs : List X) (i : ℕ) (x : X) → i < length xs
    → slice_get (set xs i x) i ≡ Some x
set_here [] i x within = absurd (omega (arith, within))
set_here (first ∷ xs) zero x within = refl
set_here (first ∷ xs) (suc i) x within = set_here xs i x (omega (arith, within))

pub set_elsewhere : {X : Type 0} (xs : List X) (i k : ℕ) (x : X) → k ≢ i
    → slice_get (set xs i x) k ≡ slice_get xs k
set_elsewhere [] i k x differs = refl
set_elsewhere (first ∷ xs) zero zero x differs = absurd (differs refl)
set_elsewhere (first ∷ xs) zero (suc k) x differs = refl
set_elsewhere (first ∷ xs) (suc i) zero x differs = refl
set_elsewhere (first ∷ xs) (suc i) (suc k) x differs =
    set_elsewhere xs i k x (λ same. differs (ap suc same))

pub quiet_at : (count i : ℕ) (change : Change)
    → slice_get (replicate count Nothing) i ≡ Some change → change ≡ Nothing
quiet_at zero i change at = absurd (cc)
quiet_at (suc count) zero change at = sym (same_Some Nothing change at)
quiet_at (suc count) (suc i) change at = quiet_at count i change at

-- the port of a neighbour that leads back
pub record Back (rows : List NodeRow) (i p : ℕ) (row : NodeRow) (at : Port) : Type 0 where
  pub q : ℕ
  pub other : NodeRow
  pub port : Port
  pub stands : slice_get rows (get_or (beside rows i) p 0) ≡ Some other
  pub is : other.id ≡ at.nbr
  pub has : slice_get other.ports q ≡ Some port
  pub leads : port.nbr ≡ row.id
  pub home : get_or (beside rows (get_or (beside rows i) p 0)) q 0 ≡ i

pub way_back : (rows : List NodeRow) → IsNetwork rows → (i p : ℕ) (row : NodeRow) (at : Port)
    → slice_get rows i ≡ Some row → slice_get row.ports p ≡ Some at → Back rows i p row at
way_back rows valid i p row at stands has =
    let there : ℕ = get_or (beside rows i) p 0 in
    let other = other_at rows valid [] i row stands p at has in
    let slot = (slot_back rows valid i p row at stands has).1 in
    let same : slot.place ≡ there =
    one_place rows valid slot.place there slot.row other.row slot.stands other.stands
    (slot.owner ∙ sym other.is) in
    let home = other_at rows valid [] slot.place slot.row slot.stands slot.at slot.port slot.has in
    let leads : get_or (beside rows slot.place) slot.at 0 ≡ i =
    one_place rows valid (get_or (beside rows slot.place) slot.at 0) i home.row row home.stands
    stands (home.is ∙ slot.leads) in record {
      q = slot.at;
      other = slot.row;
      port = slot.port;
      stands = ap (slice_get rows) (sym same) ∙ slot.stands;
      is = slot.owner;
      has = slot.has;
      leads = slot.leads;
      home = ap (λ (place : ℕ). get_or (beside rows place) slot.at 0) (sym same) ∙ leads;
    }

-- either the place or another
pub at_place : {P : Type 0} (i place : ℕ) → (i ≡ place → P) → (i ≢ place → P) → P
at_place {P} i place here there = by (i == place) refl
  where
    by : (b : Bool) → (i == place) ≡ b → P
    by true is = here (eqb-true i place is)
    by false is = there (eqb-false i place is)

pub same_noted : (changes : List Change) → IsMoreNoted changes changes
same_noted changes = record {
  as_many = refl;
  nothing = λ i at. at;
  keeps = λ i change at keeps. (change, at, keeps);
}

pub more_noted : (first second third : List Change) → IsMoreNoted first second
    → IsMoreNoted second third → IsMoreNoted first third
more_noted first second third one two = record {
  as_many = two.as_many ∙ one.as_many;
  nothing = λ i at. one.nothing i (two.nothing i at);
  keeps = λ i change at keeps.
      let was = two.keeps i change at keeps in one.keeps i was.0 was.1 was.2;
}

-- one change that is set
module _ (old : List Change) (place : ℕ) (change : Change) (within : place < length old) where
  abbrev new : List Change
  new = set old place change

  abbrev before : Change
  before = get_or old place Nothing

  here_is : slice_get new place ≡ Some change
  here_is = set_here old place change within

  was_here : slice_get old place ≡ Some before
  was_here = slice_get-get_or old place Nothing within

  pub set_noted : change ≢ Nothing
      → (keeps_outcome change ≡ true → keeps_outcome before ≡ true) → IsMoreNoted old new
  set_noted some keeps = record {
    as_many = length-set old place change;
    nothing = λ i at. at_place i place
        (λ same. absurd (some (same_Some change Nothing
        (sym here_is ∙ ap (slice_get new) (sym same) ∙ at))))
        (λ differs. sym (set_elsewhere old place i change differs) ∙ at);
    keeps = λ i after at holds. at_place i place
        (λ same.
        let is : after ≡ change =
        same_Some after change (sym at ∙ ap (slice_get new) same ∙ here_is) in
        (before, ap (slice_get old) same ∙ was_here, keeps (ap keeps_outcome (sym is) ∙ holds)))
        (λ differs. (after, sym (set_elsewhere old place i change differs) ∙ at, holds));
  }

  -- no label is noted that was not
  pub set_labels : (change ≡ Label → before ≡ Label) → (i : ℕ) → slice_get new i ≡ Some Label
      → slice_get old i ≡ Some Label
  set_labels was i at =
      at_place i place
      (λ same.
      let is : change ≡ Label =
      same_Some change Label (sym here_is ∙ ap (slice_get new) (sym same) ∙ at) in
      ap (slice_get old) same ∙ was_here ∙ ap Some (was is))
      (λ differs. sym (set_elsewhere old place i change differs) ∙ at)

-- what is noted beside a label stays so
previous_stays : (watched : Watched) (old new : List Change) (place : ℕ) → IsMoreNoted old new
    → ArePreviousNoted watched old place → ArePreviousNoted watched new place
previous_stays watched old new place more noted row p at stands has previous none =
    noted row p at stands has previous (more.nothing _ none)

-- a label that is noted behind those beside it
module _ (watched : Watched) (old marked : List Change) (place : ℕ)
    (within : place < length marked) (more : IsMoreNoted old marked) where
  abbrev labelled : List Change
  labelled = set marked place Label

  later : IsMoreNoted marked labelled
  later = set_noted marked place Label within (λ is. absurd (cc)) (λ keeps. absurd (cc))

  pub label_more : IsMoreNoted old labelled
  label_more = more_noted old marked labelled more later

  pub label_others : ((i : ℕ) → slice_get marked i ≡ Some Label → slice_get old i ≡ Some Label)
      → (i : ℕ) → slice_get labelled i ≡ Some Label → i ≢ place → slice_get old i ≡ Some Label
  label_others labels i label differs =
      labels i (sym (set_elsewhere marked place i Label differs) ∙ label)

  pub label_previous : ArePreviousNoted watched marked place → ArePreviousNoted watched labelled place
  label_previous = previous_stays watched marked labelled place later

-- one node more beside a new label
beside_some : (change : Change) → with_beside change ≢ Nothing
beside_some Nothing is = absurd (cc)
beside_some Beside is = absurd (cc)
beside_some Held is = absurd (cc)
beside_some Label is = absurd (cc)

beside_keeps : (change : Change) → keeps_outcome (with_beside change) ≡ true
    → keeps_outcome change ≡ true
beside_keeps Nothing keeps = refl
beside_keeps Beside keeps = refl
beside_keeps Held keeps = keeps
beside_keeps Label keeps = keeps

beside_label : (change : Change) → with_beside change ≡ Label → change ≡ Label
beside_label Nothing is = absurd (cc)
beside_label Beside is = absurd (cc)
beside_label Held is = absurd (cc)
beside_label Label is = refl

module _ (old : List Change) (place : ℕ) (within : place < length old) where
  abbrev beside_it : List Change
  beside_it = set old place (with_beside (get_or old place Nothing))

  pub beside_more : IsMoreNoted old beside_it
  beside_more =
      set_noted old place (with_beside (get_or old place Nothing)) within
      (beside_some (get_or old place Nothing)) (beside_keeps (get_or old place Nothing))

  pub beside_labels : (i : ℕ) → slice_get beside_it i ≡ Some Label → slice_get old i ≡ Some Label
  beside_labels =
      set_labels old place (with_beside (get_or old place Nothing)) within
      (beside_label (get_or old place Nothing))

  pub beside_here : slice_get beside_it place ≢ Some Nothing
  beside_here none =
      beside_some (get_or old place Nothing)
      (same_Some (with_beside (get_or old place Nothing)) Nothing
      (sym (set_here old place (with_beside (get_or old place Nothing)) within) ∙ none))

-- those of the first ports of a node are noted that hold the version before the newest of its label
abbrev pub AreFirstNoted : Watched → List Change → ℕ → ℕ → Type 0
AreFirstNoted watched changes place count =
    (row : NodeRow) (p : ℕ) (at : Port) → p < count → slice_get watched.network place ≡ Some row
    → slice_get row.ports p ≡ Some at
    → holds_previous watched.network (turns_of watched.events) at.nbr row.id ≡ true
    → slice_get changes (get_or (beside watched.network place) p 0) ≢ Some Nothing

-- one port more
module _ (watched : Watched) (old : List Change) (place port : ℕ)
    (first : AreFirstNoted watched old place port) where
  abbrev there : ℕ
  there = get_or (beside watched.network place) port 0

  pub first_held : there < length old
      → AreFirstNoted watched (set old there (with_beside (get_or old there Nothing))) place
      (port + 1)
  first_held within row p at under stands has previous none =
      at_place p port
      (λ same. beside_here old there within
      (ap (λ (p : ℕ). slice_get (set old there (with_beside (get_or old there Nothing)))
      (get_or (beside watched.network place) p 0)) (sym same) ∙ none))
      (λ differs. first row p at (omega (arith, under, differs)) stands has previous
      ((beside_more old there within).nothing (get_or (beside watched.network place) p 0) none))

  pub first_other : ((row : NodeRow) (at : Port) → slice_get watched.network place ≡ Some row
      → slice_get row.ports port ≡ Some at
      → holds_previous watched.network (turns_of watched.events) at.nbr row.id ≡ false)
      → AreFirstNoted watched old place (port + 1)
  first_other other row p at under stands has previous none =
      at_place p port
      (λ same.
      let no : false ≡ true =
      sym (other row at stands (ap (slice_get row.ports) (sym same) ∙ has)) ∙ previous in absurd (cc))
      (λ differs. first row p at (omega (arith, under, differs)) stands has previous none)

-- a node that holds something else
held_some : (change : Change) → with_held change ≢ Nothing
held_some Nothing is = absurd (cc)
held_some Beside is = absurd (cc)
held_some Held is = absurd (cc)
held_some Label is = absurd (cc)

held_keeps : (change : Change) → keeps_outcome (with_held change) ≡ false
held_keeps Nothing = refl
held_keeps Beside = refl
held_keeps Held = refl
held_keeps Label = refl

held_label : (change : Change) → with_held change ≡ Label → change ≡ Label
held_label Nothing is = absurd (cc)
held_label Beside is = absurd (cc)
held_label Held is = absurd (cc)
held_label Label is = refl

-- nothing is noted of an event that changes nothing
pub noted_none : (watched : Watched) (event : WatchEvent) (changes : List Change)
    → IsNoted watched event None changes changes
noted_none watched event changes = record {
  more = same_noted changes;
  labels = λ i at. inl at;
  here = λ i same. absurd (cc);
  around = λ i given same. absurd (cc);
}

module _ (watched : Watched) (event : WatchEvent) (place : ℕ) (old : List Change) where
  pub noted_label : (new : List Change) → IsMoreNoted old new → is_relabel event ≡ true
      → ((i : ℕ) → slice_get new i ≡ Some Label → i ≢ place → slice_get old i ≡ Some Label)
      → slice_get new place ≡ Some Label
      → ((slice_get old place ≡ Some Label) ⊎ ArePreviousNoted watched new place)
      → IsNoted watched event (Some place) old new
  noted_label new more given labels here around = record {
    more = more;
    labels = λ i label. at_place i place (λ same. inr (given, ap Some (sym same)))
        (λ differs. inl (labels i label differs));
    here = λ i same. (Label, ap (slice_get new) (sym (same_Some place i same)) ∙ here, refl);
    around = λ i relabels same. subst (λ (place : ℕ). (slice_get old place ≡ Some Label)
        ⊎ ArePreviousNoted watched new place) (same_Some place i same) around;
  }

  pub noted_held : place < length old → is_relabel event ≡ false
      → IsNoted watched event (Some place) old
      (set old place (with_held (get_or old place Nothing)))
  noted_held within quiet = record {
    more = more;
    labels = λ i label. inl (set_labels old place change within (held_label before) i label);
    here = λ i same. (
      change,
      ap (slice_get new) (sym (same_Some place i same)) ∙ set_here old place change within,
      held_keeps before,
    );
    around = λ i given same. let no : false ≡ true = sym quiet ∙ given in absurd (cc);
  }
    where
      before : Change
      before = get_or old place Nothing

      change : Change
      change = with_held before

      new : List Change
      new = set old place change

      more : IsMoreNoted old new
      more = set_noted old place change within (held_some before)
          (λ keeps. let no : false ≡ true = sym (held_keeps before) ∙ keeps in absurd (cc))
