-- The rows of the last look, as events come and as they are renewed.
use Rattle.std.proofs.Common.{◌≡◌, ◌≢◌, ◌∙◌, ℕ, suc, ◌+◌, ◌<◌, ◌≤◌, Bool, true, false, List, [], ◌∷◌, inl, inr, nat_le, length, replicate, get_or, set, Option, None, Some, slice_get, option_map, refl, sym, ap, subst, arith}
use Rattle.std.specs.Option.{is_none}
use Rattle.std.proofs.lemmas.Bool.{eq-eqb}
use Rattle.std.proofs.lemmas.List.{length-map, length-replicate, length-set}
use Rattle.std.proofs.lemmas.Option.{same_Some, slice_get-map, slice_get_within}
use Rattle.pls_configuration.specs.declared.row.Port.{Port}
use Rattle.pls_configuration.specs.declared.row.NodeRow.{NodeRow}
use Rattle.pls_configuration.specs.declared.verdict.Verdict.{Verdict}
use Rattle.pls_configuration.specs.Configuration.{IsNetwork, first_of, row_of, refused_if}
use Rattle.pls_graph.specs.Places.{beside}
use Rattle.pls_graph.proofs.Finds.{item_at}
use Rattle.pls_graph.proofs.Placed.{row_place}
use Rattle.pls_labels.specs.Seen.{Seen}
use Rattle.pls_sim.specs.declared.outcome.Outcome.{Outcome}
use Rattle.pls_sim.specs.declared.event_error.EventError.TheVariants.{Full, NoNode}
use Rattle.pls_sim.proofs.Refusing.{At}
use Rattle.pls_watch_part.specs.declared.watch_event.WatchEvent.{WatchEvent}
use Rattle.pls_watch_part.specs.declared.watch_event.WatchEvent.TheVariants as Watches
use Rattle.pls_watch.specs.declared.turn.Turn.{Turn}
use Rattle.pls_watch.specs.declared.change.Change.{Change}
use Rattle.pls_watch.specs.declared.change.Change.TheVariants.{Nothing, Beside, Label}
use Rattle.pls_watch.specs.Labelled.{turn_of, turns_of}
use Rattle.pls_watch.specs.Versions.{relabels}
use Rattle.pls_watch.specs.Watching.{Watched, lacks_room, look_of, outcome_in, stale_in, watch_refusal, watching}
use Rattle.pls_watch.specs.inner.Current.{AreLabelsNoted, ArePreviousNoted, IsCurrent, IsNoted, IsRenewed, KnowsSame, holds_newest, holds_previous, is_relabel, keeps_outcome, look_row}
use Rattle.pls_watch.proofs.Noted.{Back, at_place, quiet_at, set_elsewhere, set_here, way_back}
use Rattle.pls_watch.proofs.Staying.{newest_behind, outcome_stays, previous_held, stale_stays}
use Rattle.pls_watch.proofs.Table.{other_at}

-- lists with the same items are the same
same_items : {X : Type 0} (xs ys : List X) → length xs ≡ length ys
    → ((i : ℕ) (y : X) → slice_get ys i ≡ Some y → slice_get xs i ≡ Some y) → xs ≡ ys
same_items [] [] long same = refl
same_items [] (y ∷ ys) long same = absurd (omega (arith, long))
same_items (x ∷ xs) [] long same = absurd (omega (arith, long))
same_items (x ∷ xs) (y ∷ ys) long same =
    let first = same_Some x y (same 0 y refl) in
    let others = same_items xs ys (omega (arith, long)) (λ i. same (suc i)) in
    λ i. first i ∷ others i

module _ (judge : Seen → Verdict) (watched : Watched) where
  abbrev rows : List NodeRow
  rows = watched.network

  -- all rows show what is true now
  abbrev pub AreNow : ℕ → List (ℕ × Outcome × List ℕ) → Type 0
  AreNow count shown =
      (i : ℕ) (row : NodeRow) → i < count → slice_get rows i ≡ Some row
      → slice_get shown i ≡ Some (look_row judge watched row)

  pub now_look : AreNow (length rows) (look_of judge watched)
  now_look i row within stands =
      slice_get-map (look_row judge watched) rows i ∙ ap (option_map (look_row judge watched)) stands

  pub now_all : (count : ℕ) (shown : List (ℕ × Outcome × List ℕ)) → length rows ≤ count
      → AreNow count shown → AreNow (length rows) shown
  now_all count shown all are i row within stands = are i row (omega (arith, within, all)) stands

  pub look_now : (shown : List (ℕ × Outcome × List ℕ)) → length shown ≡ length rows
      → AreNow (length rows) shown → shown ≡ look_of judge watched
  look_now shown long are =
      same_items shown (look_of judge watched) (long ∙ sym (length-map rows (look_row judge watched)))
      (λ i y at.
      let within : i < length rows = omega (
        arith,
        slice_get_within (look_of judge watched) i y at,
        length-map rows (look_row judge watched),
      ) in
      let row = item_at rows i within in
      are i row.0 within row.1 ∙ sym (now_look i row.0 within row.1) ∙ at)

  -- then nothing is asked of what changed
  pub current_look : (changes : List Change) (shown : List (ℕ × Outcome × List ℕ))
      → changes ≡ replicate (length shown) Nothing → shown ≡ look_of judge watched
      → IsCurrent judge watched changes shown
  current_look changes shown none is = record {
    each = ap (length {A = Change}) none ∙ length-replicate (length shown) Nothing ∙ long;
    all = long;
    outcomes = λ i row change stands at keeps. (stale_in watched row, now i row stands);
    stales = λ i row stands quiet. now i row stands;
    labels = λ place p row at label stands has quiet.
        let no : Label ≡ Nothing =
        quiet_at (length shown) place Label
        (ap (λ (changes : List Change). slice_get changes place) (sym none) ∙ label) in
        absurd (cc);
  }
    where
      long : length shown ≡ length rows
      long = ap (length {A = ℕ × Outcome × List ℕ}) is
          ∙ length-map rows (look_row judge watched)

      now : (i : ℕ) (row : NodeRow) → slice_get rows i ≡ Some row
          → slice_get shown i ≡ Some (look_row judge watched row)
      now i row stands =
          subst (AreNow (length rows)) (sym is) now_look i row (slice_get_within rows i row stands)
          stands

  -- one row more is renewed
  module _ (place : ℕ) (old new : List (ℕ × Outcome × List ℕ))
      (renewed : IsRenewed judge watched place old new) where
    here_now : (i : ℕ) (row : NodeRow) → i ≡ place → slice_get rows i ≡ Some row
        → slice_get new i ≡ Some (look_row judge watched row)
    here_now i row same stands =
        ap (slice_get new) same ∙ renewed.here row (ap (slice_get rows) (sym same) ∙ stands)

    pub renewed_now : AreNow place old → AreNow (place + 1) new
    renewed_now are i row within stands =
        at_place i place (λ same. here_now i row same stands)
        (λ differs. renewed.others i differs ∙ are i row (omega (arith, within, differs)) stands)

    pub renewed_current : (changes : List Change) → IsCurrent judge watched changes old
        → IsCurrent judge watched changes new
    renewed_current changes current = record {
      each = current.each;
      all = renewed.as_many ∙ current.all;
      outcomes = λ i row change stands at keeps. at_place i place
          (λ same. (stale_in watched row, here_now i row same stands))
          (λ differs. let was = current.outcomes i row change stands at keeps in
          (was.0, renewed.others i differs ∙ was.1));
      stales = λ i row stands quiet. at_place i place (λ same. here_now i row same stands)
          (λ differs. renewed.others i differs ∙ current.stales i row stands quiet);
      labels = current.labels;
    }

  -- a row that is put in the place of the one before
  renewed_set : (place : ℕ) (old : List (ℕ × Outcome × List ℕ)) (shown : ℕ × Outcome × List ℕ)
      → place < length old
      → ((row : NodeRow) → slice_get rows place ≡ Some row → shown ≡ look_row judge watched row)
      → IsRenewed judge watched place old (set old place shown)
  renewed_set place old shown within is = record {
    as_many = length-set old place shown;
    here = λ row stands. set_here old place shown within ∙ ap Some (is row stands);
    others = λ i differs. set_elsewhere old place i shown differs;
  }

  module _ (changes : List Change) (place : ℕ) (old : List (ℕ × Outcome × List ℕ))
      (current : IsCurrent judge watched changes old) where
    -- where nothing changed, the row stays
    pub renewed_nothing : slice_get changes place ≡ Some Nothing
        → IsRenewed judge watched place old old
    renewed_nothing nothing = record {
      as_many = refl;
      here = λ row stands. current.stales place row stands nothing;
      others = λ i differs. refl;
    }

    module _ (new : List (ℕ × Outcome × List ℕ)) (within : place < length rows) where
      abbrev here : (row : NodeRow) × (slice_get rows place ≡ Some row)
      here = item_at rows place within

      -- where the row is made anew
      pub renewed_row : ((row : NodeRow) → slice_get rows place ≡ Some row
          → new ≡ set old place (look_row judge watched row))
          → IsRenewed judge watched place old new
      renewed_row is =
          subst (IsRenewed judge watched place old) (sym (is here.0 here.1))
          (renewed_set place old (look_row judge watched here.0) (omega (arith, within, current.all))
          (λ row stands.
          ap (look_row judge watched) (same_Some here.0 row (sym here.1 ∙ stands))))

      -- where its stale ports are, and no more than a neighbour's label changed
      pub renewed_stale : slice_get changes place ≡ Some Beside
          → ((row : NodeRow) (id : ℕ) (outcome : Outcome) (before : List ℕ)
          → slice_get rows place ≡ Some row → slice_get old place ≡ Some (id, outcome, before)
          → new ≡ set old place (id, outcome, stale_in watched row))
          → IsRenewed judge watched place old new
      renewed_stale beside is =
          renewed_row (λ row stands.
          let was = current.outcomes place row Beside stands beside refl in
          is row row.id (outcome_in judge watched row) was.0 stands was.1)

-- the place is this one where it is no other
is_place : (o : Option ℕ) (i : ℕ) → (o ≢ Some i → ⊥) → o ≡ Some i
is_place None i not = absurd (not (λ same. absurd (cc)))
is_place (Some place) i not =
    at_place place i (λ same. ap Some same)
    (λ differs. absurd (not (λ same. differs (same_Some place i same))))

-- an event that gives a node a label is a relabel
gives_label : (event : WatchEvent) (node : ℕ) → relabels node (turn_of event) ≡ true
    → is_relabel event ≡ true
gives_label (Watches.Emit other port) node gives = absurd (cc)
gives_label (Watches.Arrive number) node gives = absurd (cc)
gives_label (Watches.Restart other) node gives = absurd (cc)
gives_label (Watches.Relabel other bits) node gives = refl

-- a relabel that applies names a node
names_node : (lacks full : Bool) (o : Option NodeRow)
    → first_of (refused_if lacks Full ∷ first_of (refused_if full Full
    ∷ refused_if (is_none o) NoNode ∷ []) ∷ []) ≡ None → (row : NodeRow) × (o ≡ Some row)
names_node true full o none = absurd (cc)
names_node false true o none = absurd (cc)
names_node false false None none = absurd (cc)
names_node false false (Some row) none = (row, refl)

-- after an event the rows are current where what it changes is noted
module _ (judge : Seen → Verdict) (watched : Watched) (event : WatchEvent) (place : Option ℕ)
    (valid : IsNetwork watched.network) (applies : watch_refusal watched event ≡ None)
    (old new : List Change) (shown : List (ℕ × Outcome × List ℕ))
    (current : IsCurrent judge watched old shown)
    (noted : IsNoted (watching event watched) event place old new)
    (knows : (i : ℕ) (row : NodeRow) → slice_get watched.network i ≡ Some row → place ≢ Some i
    → KnowsSame watched event row.id) where
  abbrev net : List NodeRow
  net = watched.network

  abbrev turns : List Turn
  turns = turns_of watched.events

  abbrev later : List Turn
  later = turns_of (watching event watched).events

  -- of which outcomes stay, the event changes nothing for
  place_differs : (i : ℕ) (change : Change) → slice_get new i ≡ Some change
      → keeps_outcome change ≡ true → place ≢ Some i
  place_differs i change at keeps same =
      let here = noted.here i same in
      let is : here.0 ≡ change = same_Some here.0 change (sym here.1 ∙ at) in
      let no : false ≡ true = sym here.2 ∙ ap keeps_outcome is ∙ keeps in
      absurd (cc)

  -- the node that gets a label stands at the place
  given_here : (i : ℕ) (row : NodeRow) → slice_get net i ≡ Some row
      → relabels row.id (turn_of event) ≡ true → place ≡ Some i
  given_here i row stands gives = is_place place i
      (λ differs. let no : true ≡ false = sym gives ∙ (knows i row stands differs).stays in
      absurd (cc))

  gives_there : (i : ℕ) (row : NodeRow) → slice_get net i ≡ Some row → is_relabel event ≡ true
      → place ≡ Some i → relabels row.id (turn_of event) ≡ true
  gives_there i row stands given same = of event refl given
    where
      of : (one : WatchEvent) → event ≡ one → is_relabel one ≡ true
          → relabels row.id (turn_of event) ≡ true
      of (Watches.Emit node port) is relabel = absurd (cc)
      of (Watches.Arrive number) is relabel = absurd (cc)
      of (Watches.Restart node) is relabel = absurd (cc)
      of (Watches.Relabel node bits) is relabel =
          let named = names_node (lacks_room watched (Watches.Relabel node bits))
          (nat_le watched.most (length turns)) (row_of net node)
          (ap (watch_refusal watched) (sym is) ∙ applies) in
          let found = row_place net valid node named.0 named.1 in
          let gives : relabels named.0.id (turn_of event) ≡ true =
          ap (λ (event : WatchEvent). relabels named.0.id (turn_of event)) is
          ∙ eq-eqb node named.0.id found.2 in
          let here : found.0 ≡ i =
          same_Some found.0 i (sym (given_here found.0 named.0 found.1 gives) ∙ same) in
          let own : named.0 ≡ row =
          same_Some named.0 row (sym found.1 ∙ ap (slice_get net) here ∙ stands) in
          ap (λ (row : NodeRow). relabels row.id (turn_of event)) (sym own) ∙ gives

  -- a node of which nothing changed did not hold the label that was the newest before
  module _ (i : ℕ) (row : NodeRow) (stands : slice_get net i ≡ Some row)
      (quiet : slice_get new i ≡ Some Nothing) where
    behind : (p : ℕ) (at : Port) → slice_get row.ports p ≡ Some at
        → relabels at.nbr (turn_of event) ≡ true → holds_newest net turns row.id at.nbr ≡ false
    behind p at has gives = elim (noted.around there (gives_label event at.nbr gives) is) [
      | inl label ↦
          subst (λ (nbr : ℕ). holds_newest net turns row.id nbr ≡ false) back.is
          (subst (λ (id : ℕ). holds_newest net turns id back.other.id ≡ false) back.leads
          (current.labels there back.q back.other back.port label back.stands back.has
          (ap (slice_get old) back.home ∙ noted.more.nothing i quiet)))
      | inr all ↦ by (holds_newest net turns row.id at.nbr) refl all
    ]
      where
        there : ℕ
        there = get_or (beside net i) p 0

        back : Back net i p row at
        back = way_back net valid i p row at stands has

        is : place ≡ Some there
        is = given_here there back.other back.stands
            (ap (λ (node : ℕ). relabels node (turn_of event)) back.is ∙ gives)

        by : (b : Bool) → holds_newest net turns row.id at.nbr ≡ b
            → ArePreviousNoted (watching event watched) new there → b ≡ false
        by false is_newest all = refl
        by true is_newest all =
            let same = knows i row stands (place_differs i Nothing quiet refl) in
            absurd (all back.other back.q back.port back.stands back.has
            (subst (λ (nbr : ℕ). holds_previous net later back.port.nbr nbr ≡ true) (sym back.is)
            (subst (λ (id : ℕ). holds_previous net later id at.nbr ≡ true) (sym back.leads)
            (previous_held watched event row same at.nbr gives is_newest)))
            (ap (slice_get new) back.home ∙ quiet))

  -- beside a label that is noted nothing is fresh of which nothing changed
  labels_next : AreLabelsNoted (watching event watched) new
  labels_next i p row at label stands has quiet =
      subst (λ (id : ℕ). holds_newest net later id row.id ≡ false) other.is
      (newest_behind watched event other.row same row.id before)
    where
      there : ℕ
      there = get_or (beside net i) p 0

      other : At net at.nbr there
      other = other_at net valid turns i row stands p at has

      same : KnowsSame watched event other.row.id
      same = knows there other.row other.stands (place_differs there Nothing quiet refl)

      before : relabels row.id (turn_of event) ≡ false
          → holds_newest net turns other.row.id row.id ≡ false
      before unlabelled = elim (noted.labels i label) [
        | inl was ↦
            subst (λ (id : ℕ). holds_newest net turns id row.id ≡ false) (sym other.is)
            (current.labels i p row at was stands has (noted.more.nothing there quiet))
        | inr given ↦
            let no : false ≡ true =
            sym unlabelled ∙ gives_there i row stands given.0 given.1 in absurd (cc)
      ]

  pub current_next : IsCurrent judge (watching event watched) new shown
  current_next = record {
    each = noted.more.as_many ∙ current.each;
    all = current.all;
    outcomes = λ i row change stands at keeps.
        let was = noted.more.keeps i change at keeps in
        let shows = current.outcomes i row was.0 stands was.1 was.2 in (
          shows.0,
          shows.1 ∙ ap (λ outcome. Some (row.id, outcome, shows.0))
              (sym (outcome_stays watched event row
              (knows i row stands (place_differs i change at keeps)) judge)),
        );
    stales = λ i row stands quiet.
        let same = knows i row stands (place_differs i Nothing quiet refl) in
        let outcome = outcome_stays watched event row same judge in
        let stale = stale_stays watched event row same (behind i row stands quiet) in
        current.stales i row stands (noted.more.nothing i quiet)
        ∙ (λ k. Some (row.id, sym outcome k, sym stale k));
    labels = labels_next;
  }
