-- What `Done` after a watch says of the network.
use Rattle.std.proofs.Common.{◌≡◌, ◌∙◌, ◌&&◌, ◌==◌, ℕ, suc, Bool, true, false, List, [], ◌∷◌, ◌++◌, map, length, All, get_or, Option, Some, None, option_map, inl, inr, refl, sym, ap, arith, append-nil, append_assoc}
use Rattle.std.specs.Prelude.{slice_get, position}
use Rattle.std.proofs.lemmas.Bool.{eqb-true}
use Rattle.std.proofs.lemmas.List.{length-map}
use Rattle.std.proofs.lemmas.List.Elements.{All-map}
use Rattle.std.proofs.lemmas.List.Folds.{list_all-map}
use Rattle.std.proofs.lemmas.List.Sums.{AllPass-from_list_all}
use Rattle.std.proofs.lemmas.List.Quantifiers.{position-Some}
use Rattle.std.proofs.lemmas.Option.{slice_get-get_or, slice_get-map}
use Rattle.pls_configuration.specs.declared.row.Port.{Port}
use Rattle.pls_configuration.specs.declared.row.NodeRow.{NodeRow}
use Rattle.pls_configuration.specs.declared.status.Status.TheVariants.{Done}
use Rattle.pls_configuration.specs.declared.verdict.Verdict.{Verdict}
use Rattle.pls_configuration.specs.declared.verdict.Verdict.TheVariants.{Accept}
use Rattle.pls_configuration.specs.Configuration.{IsNetwork}
use Rattle.pls_graph.specs.Places.{beside}
use Rattle.pls_graph.proofs.Beside.{beside_port}
use Rattle.pls_graph.proofs.Placed.{place_of_row}
use Rattle.pls_labels.specs.Seen.{Seen, label_of, seen, seen_port}
use Rattle.pls_labels.proofs.Views.{label_at as label_placed}
use Rattle.pls_scheme.specs.Judging.{AllAccept}
use Rattle.pls_sim.specs.declared.outcome.Outcome.{Outcome}
use Rattle.pls_sim.specs.Schedule.{outcome_after, unheard}
use Rattle.pls_report.specs.Look.{look_is_well}
use Rattle.pls_report.specs.Report.{is_accepting}
use Rattle.pls_closing.specs.Closing.{is_closed}
use Rattle.pls_watch_part.specs.WatchText.{AreWatch, is_look}
use Rattle.pls_watch_part.specs.declared.watch_event.WatchEvent.{WatchEvent}
use Rattle.pls_watch_part.specs.declared.watch_event.WatchLine.{WatchLine}
use Rattle.pls_watch_part.specs.declared.watch_event.WatchLine.TheVariants.{Event, Look}
use Rattle.pls_watch.specs.declared.turn.Turn.{Turn}
use Rattle.pls_watch.specs.Labelled.{turns_of}
use Rattle.pls_watch.specs.Versions.{newest, plain_of}
use Rattle.pls_watch.specs.Watching.{Watched, look_of, outcome_in, stale_in, version_of_label}
use Rattle.pls_watch.proofs.Laws.{fresh_round}
use Rattle.pls_expressions.specs.Expression.{Expression}
use Rattle.std.specs.Option.{unwrap_or}
use Rattle.pls_inputs.specs.Parts.{Has, Input, code_in, labels_in, parts_with_watch, rows_in, watch_in}
use Rattle.pls_inputs.proofs.Facts.{readable}
use Rattle.pls_app.specs.declared.command.Command.TheVariants.{With}
use Rattle.pls_app.specs.declared.command.Task.TheVariants.{Watch}
use Rattle.pls_app.specs.Answer.{Answers}
use Rattle.pls_app.specs.Looks.{look_after, looks_behind, looks_end_well, looks_in, watched_after}
use Rattle.pls_app.specs.Meant.{judge_in}
use Rattle.pls_app.specs.Run.{Proves}
use Rattle.pls_app.specs.Said.{Answer}
use Rattle.pls_app.specs.WatchRefusal.{events_of}
use Rattle.pls_app.proofs.Proved.{accepted_holds, accepts_after, done_all, refused_not_done}
use Rattle.pls_app.proofs.Spelled.{begins_with_network}

module _ (shown : List WatchEvent → List (ℕ × Outcome × List ℕ)) where
  -- where the last line asks for a look there is one
  some_look : (before : List WatchEvent) (lines : List WatchLine)
      → is_closed is_look false lines ≡ true → looks_behind shown before lines ≡ [] → ⊥
  some_look before [] closed none = cc
  some_look before (Event event ∷ []) closed none = cc
  some_look before (Look ∷ []) closed none = cc
  some_look before (Event event ∷ next ∷ lines) closed none =
      some_look (before ++ event ∷ []) (next ∷ lines) closed none
  some_look before (Look ∷ next ∷ lines) closed none = cc

  -- and the last one comes behind all events
  last_look : (before : List WatchEvent) (lines : List WatchLine)
      → is_closed is_look false lines ≡ true
      → looks_end_well (looks_behind shown before lines)
      ≡ look_is_well (shown (before ++ events_of lines))
  last_look before [] closed = absurd (cc)
  last_look before (Event event ∷ []) closed = absurd (cc)
  last_look before (Look ∷ []) closed =
      ap (λ events. look_is_well (shown events)) (sym (append-nil before))
  last_look before (Event event ∷ next ∷ lines) closed =
      last_look (before ++ event ∷ []) (next ∷ lines) closed
      ∙ ap (λ events. look_is_well (shown events))
      (append_assoc before (event ∷ []) (events_of (next ∷ lines)))
  last_look before (Look ∷ next ∷ lines) closed =
      skip (looks_behind shown before (next ∷ lines)) (some_look before (next ∷ lines) closed)
      ∙ last_look before (next ∷ lines) closed
    where
      skip : (looks : List (List (ℕ × Outcome × List ℕ))) → (looks ≡ [] → ⊥)
          → looks_end_well (shown before ∷ looks) ≡ looks_end_well looks
      skip [] some = absurd (some refl)
      skip (look ∷ looks) some = refl

-- a list without items
none_in : (numbers : List ℕ) → (length numbers == 0) ≡ true → numbers ≡ []
none_in [] is = refl
none_in (number ∷ numbers) is =
    let none : length (number ∷ numbers) ≡ 0 = eqb-true (length (number ∷ numbers)) 0 is in
    absurd (omega (arith, none))

-- both of two tests
both : (a b : Bool) → (a && b) ≡ true → (a ≡ true) × (b ≡ true)
both true true is = (refl, refl)
both true false is = absurd (cc)
both false b is = absurd (cc)

-- a node that accepts waits at no port
heard_all : (ports : List ℕ) (verdict : Verdict)
    → is_accepting (outcome_after ports verdict) ≡ true → ports ≡ []
heard_all [] verdict all = refl
heard_all (port ∷ ports) verdict all = absurd (cc)

-- a row is seen alike where its own label and those of its neighbours are alike
seen_alike : (label other : ℕ → List Bool) (row : NodeRow) → label row.id ≡ other row.id
    → ((p : ℕ) (at : Port) → slice_get row.ports p ≡ Some at → label at.nbr ≡ other at.nbr)
    → seen label row ≡ seen other row
seen_alike label other row own same =
    let shows = ports_alike row.ports same in
    λ i. record { id = row.id; state = row.state; own = own i; ports = shows i }
  where
    ports_alike : (ports : List Port)
        → ((p : ℕ) (at : Port) → slice_get ports p ≡ Some at → label at.nbr ≡ other at.nbr)
        → map (seen_port label) ports ≡ map (seen_port other) ports
    ports_alike [] same = refl
    ports_alike (port ∷ ports) same =
        let first = same 0 port refl in
        let others = ports_alike ports (λ p at has. same (suc p) at has) in
        λ i. record { weight = port.weight; label = first i } ∷ others i

module _ (judge : Seen → Verdict) (watched : Watched) (network : IsNetwork watched.network) where
  abbrev rows : List NodeRow
  rows = watched.network

  abbrev turns : List Turn
  turns = turns_of watched.events

  -- the newest label of a node, and those of all
  abbrev newest_label : ℕ → List Bool
  newest_label id = version_of_label watched id (newest turns id)

  abbrev newest_labels : List (List Bool)
  newest_labels = map (λ row. newest_label row.id) rows

  -- they are the labels of their nodes
  label_is : (d : NodeRow) (id place : ℕ) → position (λ row. id == row.id) rows ≡ Some place
      → label_of rows newest_labels id ≡ newest_label id
  label_is d id place found =
      let stands = position-Some (λ (row : NodeRow). id == row.id) rows place d found in
      let same : id ≡ (get_or rows place d).id = eqb-true id (get_or rows place d).id stands.1 in
      label_placed rows newest_labels id place (newest_label id) found
      (slice_get-map (λ (row : NodeRow). newest_label row.id) rows place
      ∙ ap (option_map (λ (row : NodeRow). newest_label row.id))
      (slice_get-get_or rows place d stands.0)
      ∙ ap (λ id. Some (newest_label id)) (sym same))

  -- so a node sees them
  sees : (i : ℕ) (row : NodeRow) → slice_get rows i ≡ Some row
      → seen (label_of rows newest_labels) row ≡ seen newest_label row
  sees i row stands =
      seen_alike (label_of rows newest_labels) newest_label row
      (label_is row row.id i (place_of_row rows network i row stands))
      (λ p at has. label_is row at.nbr (get_or (beside rows i) p 0)
      (beside_port rows network i p row.ports at 0
      (ap (option_map (λ (row : NodeRow). row.ports)) stands) has))

  -- where a look is well, all nodes accept them
  well_accepts : look_is_well (look_of judge watched) ≡ true
      → AllAccept judge rows newest_labels
  well_accepts well =
      All-map (λ (view : Seen). judge view ≡ Accept) (seen (label_of rows newest_labels)) rows
      (λ k d within. one k (get_or rows k d) (slice_get-get_or rows k d within)
      (each k d within))
    where
      shows : NodeRow → ℕ × Outcome × List ℕ
      shows row = (row.id, outcome_in judge watched row, stale_in watched row)

      test : ℕ × Outcome × List ℕ → Bool
      test row = is_accepting row.1 && length row.2 == 0

      each : All (λ row. test (shows row) ≡ true) rows
      each =
          AllPass-from_list_all (λ row. test (shows row)) rows
          (sym (list_all-map test shows rows) ∙ well)

      one : (i : ℕ) (row : NodeRow) → slice_get rows i ≡ Some row → test (shows row) ≡ true
          → judge (seen (label_of rows newest_labels) row) ≡ Accept
      one i row stands passes =
          let halves = both (is_accepting (outcome_in judge watched row))
          (length (stale_in watched row) == 0) passes in
          let heard : unheard rows (plain_of turns) row ≡ [] = heard_all _ _ halves.0 in
          let fresh : stale_in watched row ≡ [] = none_in (stale_in watched row) halves.1 in
          let outcome = fresh_round judge rows (version_of_label watched) turns row heard fresh in
          ap judge (sees i row stands)
          ∙ accepts_after [] (judge (seen newest_label row))
          (ap is_accepting (sym outcome) ∙ halves.0)

-- the lines of a watch that an input has end with a look
closed_in : (wanted : Bool) (lines : Option (List WatchLine)) → wanted ≡ true
    → Has wanted AreWatch lines → is_closed is_look false (unwrap_or lines []) ≡ true
closed_in true None want has = absurd has
closed_in true (Some lines) want has = has.closed
closed_in false lines want has = absurd (cc)

-- `Done` says that each component of the network of the input has the property
pub watch_proves : (scheme : Expression) (bytes : List ℕ) (answer : Answer)
    → Answers (With Watch scheme) bytes answer → answer.status ≡ Done
    → Proves scheme bytes
watch_proves scheme bytes answer answers done = elim answers [
  | inl refused ↦
      absurd (refused_not_done refused.0
      (sym (ap (λ (answer : Answer). answer.status) refused.2) ∙ done))
  | inr works ↦
      let input : Input = works.input in
      let rows : List NodeRow = rows_in input in
      let judge = judge_in (code_in input) scheme in
      let watched : Watched =
      watched_after rows (labels_in input) (events_of (watch_in input)) in
      let network : IsNetwork rows = (readable parts_with_watch bytes input works.is refl).network in
      let ends = done_all (looks_end_well (looks_in judge input))
      (sym (ap (λ (answer : Answer). answer.status) works.yields) ∙ done) in
      let well : look_is_well (look_of judge watched) ≡ true =
      sym (last_look (look_after judge rows (labels_in input)) [] (watch_in input)
      (closed_in true input.watch refl works.is.says.has.watch)) ∙ ends in record {
        rows = rows;
        is = begins_with_network parts_with_watch bytes input works.is refl;
        holds = accepted_holds (code_in input) scheme rows (newest_labels judge watched network)
            network (length-map rows (λ (row : NodeRow). newest_label judge watched network row.id))
            (well_accepts judge watched network well);
      }
]
