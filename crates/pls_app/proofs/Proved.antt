-- What `Done` and `No` say of a network.
use Rattle.std.proofs.Common.{◌≡◌, ◌∙◌, ℕ, [], ◌∷◌, Bool, true, false, List, map, length, All, if◌then◌else◌, inl, inr, get_or, refl, subst, sym, ap}
use Rattle.std.proofs.lemmas.List.Folds.{list_all-map}
use Rattle.std.proofs.lemmas.List.Sums.{AllPass-from_list_all, list_all-from_AllPass}
use Rattle.std.proofs.lemmas.List.Elements.{All-map}
use Rattle.pls_graph.proofs.Members.{Contains-first, Contains-later}
use Rattle.pls_streams.specs.declared.text_error.TextError.{TextError}
use Rattle.pls_streams.specs.declared.text_error.TextError.TheVariants.{Form, Limit, Sense, NoMemory}
use Rattle.pls_configuration.specs.declared.row.NodeRow.{NodeRow}
use Rattle.pls_configuration.specs.declared.status.Status.{Status}
use Rattle.pls_configuration.specs.declared.status.Status.TheVariants.{Done, No}
use Rattle.pls_configuration.specs.declared.verdict.Verdict.{Verdict}
use Rattle.pls_configuration.specs.declared.verdict.Verdict.TheVariants.{Accept, Reject}
use Rattle.pls_labels.specs.Seen.{Seen, label_of, seen, views}
use Rattle.pls_configuration.specs.Configuration.{IsNetwork}
use Rattle.pls_scheme.specs.Judging.{AllAccept, round_by}
use Rattle.pls_schedule.specs.declared.event.Event.{Event}
use Rattle.pls_sim.specs.declared.outcome.Outcome.{Outcome}
use Rattle.pls_sim.specs.declared.outcome.Outcome.TheVariants.{Decided}
use Rattle.pls_sim.specs.Schedule.{outcome_after, outcome_of, played_by, unheard}
use Rattle.pls_report.specs.Report.{all_accept, all_verdicts_accept, is_accepting}
use Rattle.pls_bits.specs.NumberCode.{TakesOnly}
use Rattle.pls_bits.specs.laws.DeltaLaws.{delta_takes-only}
use Rattle.pls_bits.specs.laws.GammaLaws.{gamma_takes-only}
use Rattle.pls_components.specs.Components.{IsComponent, items_at}
use Rattle.pls_components.specs.Parts.{AcceptAt}
use Rattle.pls_components.proofs.Items.{All-items, items-map}
use Rattle.pls_components.proofs.Local.{part_holds}
use Rattle.pls_expressions.specs.Expression.{Expression, HasProperty}
use Rattle.pls_combine.specs.laws.ExpressionLaws.{expression_sound}
use Rattle.pls_inputs.specs.Parts.{Input, code_in, events_in, labels_in, rows_in}
use Rattle.pls_inputs.proofs.Facts.{each, readable}
use Rattle.pls_bits.specs.declared.code_name.CodeName.{CodeName}
use Rattle.pls_bits.specs.declared.code_name.CodeName.TheVariants.{Delta, Gamma}
use Rattle.pls_app.specs.declared.command.Command.{Command}
use Rattle.pls_app.specs.declared.command.Command.TheVariants.{ByRules, Print, Trial, With}
use Rattle.pls_app.specs.declared.command.Task.TheVariants.{Mark, Verify, Simulate, Recheck, Watch, Bound, Convert, Splice}
use Rattle.pls_app.specs.Command.{Checks, input_parts_of, read_by, reads_source}
use Rattle.pls_app.specs.Meant.{Holds, LacksAt, judge_in, number_code_of, takes_of}
use Rattle.pls_app.specs.Reports.{decided_by}
use Rattle.pls_app.specs.Said.{Answer}
use Rattle.pls_app.specs.Answer.{Answers, IsInputTo, Yields, outcomes_in, refusal_status}
use Rattle.pls_app.specs.Run.{IsJudged, Lacks, Notices, Proves, SomeFails, SomeRejects}
use Rattle.pls_app.specs.Spelled.{BeginsWithNetwork}
use Rattle.pls_app.proofs.Spelled.{begins_with_network, whole_network}

-- a verdict that is decided and accepting accepts
accepts : (verdict : Verdict) → is_accepting (Decided verdict) ≡ true → verdict ≡ Accept
accepts Accept all = refl
accepts (Reject leaf rule) all = absurd (cc)

-- so does that of a node that has heard what it can and accepts
pub accepts_after : (ports : List ℕ) (verdict : Verdict)
    → is_accepting (outcome_after ports verdict) ≡ true → verdict ≡ Accept
accepts_after [] verdict all = accepts verdict all
accepts_after (port ∷ ports) verdict all = absurd (cc)

-- where all outcomes of some things accept, each does
each_accepts : {X : Type 0} (outcome : X → ℕ × Outcome) (xs : List X)
    → all_accept (map outcome xs) ≡ true → All (λ x. is_accepting (outcome x).1 ≡ true) xs
each_accepts outcome xs all = λ k d within.
    AllPass-from_list_all (λ x. is_accepting (outcome x).1) xs
    (sym (list_all-map (λ row. is_accepting row.1) outcome xs) ∙ all) k d within

-- a round in which the nodes at some places accept
pub decided_accept : (judge : Seen → Verdict) (rows : List NodeRow) (labels : List (List Bool))
    (places : List ℕ) → all_accept (items_at (decided_by judge rows labels) places) ≡ true
    → AcceptAt judge rows labels places
decided_accept judge rows labels places all =
    let outcome : Seen → ℕ × Outcome = λ view. (view.id, Decided (judge view)) in
    let own : List Seen = items_at (views rows labels) places in
    λ k d within. accepts (judge (get_or own k d))
    (each_accepts outcome own
    (ap all_accept (sym (items-map outcome (views rows labels) places)) ∙ all) k d within)

-- and one in which all do
pub round_accepts : (judge : Seen → Verdict) (rows : List NodeRow) (labels : List (List Bool))
    → all_accept (decided_by judge rows labels) ≡ true → AllAccept judge rows labels
round_accepts judge rows labels all = λ k d within.
    accepts (judge (get_or (views rows labels) k d))
    (each_accepts (λ view. (view.id, Decided (judge view))) (views rows labels) all k d within)

-- a round that is played, in which the nodes at some places accept
played_accept : (judge : Seen → Verdict) (rows : List NodeRow) (labels : List (List Bool))
    (events : List Event) (places : List ℕ)
    → all_accept (items_at (played_by judge rows labels events) places) ≡ true
    → AcceptAt judge rows labels places
played_accept judge rows labels events places all =
    let view : NodeRow → Seen = seen (label_of rows labels) in
    let outcome : NodeRow → ℕ × Outcome =
    λ row. (row.id, outcome_of judge rows labels events row) in
    let own : List NodeRow = items_at rows places in
    subst (All (λ (view : Seen). judge view ≡ Accept)) (sym (items-map view rows places))
    (All-map (λ (view : Seen). judge view ≡ Accept) view own (λ k d within.
    let row = get_or own k d in
    accepts_after (unheard rows events row) (judge (view row))
    (each_accepts outcome own
    (ap all_accept (sym (items-map outcome rows places)) ∙ all) k d within)))

-- the outcomes that a command reports of some nodes all accept only where the nodes do
all_judged : (scheme : Expression) (command : Command) (input : Input) (places : List ℕ)
    → Checks scheme command → all_accept (items_at (outcomes_in command input) places) ≡ true
    → AcceptAt (judge_in (code_in input) scheme) (rows_in input) (labels_in input) places
all_judged scheme (With (Mark code) other) input places checks all = absurd checks
all_judged scheme (With (Verify form) other) input places checks all =
    subst (λ (scheme : Expression). AcceptAt (judge_in (code_in input) scheme) (rows_in input)
    (labels_in input) places) (sym checks)
    (decided_accept (judge_in (code_in input) other) (rows_in input) (labels_in input) places all)
all_judged scheme (With (Simulate form) other) input places checks all =
    subst (λ (scheme : Expression). AcceptAt (judge_in (code_in input) scheme) (rows_in input)
    (labels_in input) places) (sym checks)
    (played_accept (judge_in (code_in input) other) (rows_in input) (labels_in input)
    (events_in input) places all)
all_judged scheme (With Recheck other) input places checks all = absurd checks
all_judged scheme (With (Bound code) other) input places checks all = absurd checks
all_judged scheme (With Watch other) input places checks all = absurd checks
all_judged scheme (With Convert other) input places checks all = absurd checks
all_judged scheme (With Splice other) input places checks all = absurd checks
all_judged scheme (Trial nodes seed) input places checks all = absurd checks
all_judged scheme (ByRules task) input places checks all = absurd checks
all_judged scheme (Print name) input places checks all = absurd checks

-- where all outcomes accept, those of some nodes do
pub some_accept : (outcomes : List (ℕ × Outcome)) (places : List ℕ) → all_accept outcomes ≡ true
    → all_accept (items_at outcomes places) ≡ true
some_accept outcomes places all =
    let test : ℕ × Outcome → Bool = λ row. is_accepting row.1 in
    list_all-from_AllPass test (items_at outcomes places)
    (All-items outcomes (λ row. test row ≡ true) (AllPass-from_list_all test outcomes all) places)

-- a command that checks labels reads a network and one label for each node
wants_labels : (scheme : Expression) (command : Command) → Checks scheme command
    → ((input_parts_of command).network ≡ true) × ((input_parts_of command).labels ≡ true)
    × (reads_source command ≡ true)
wants_labels scheme (With (Mark code) other) checks = absurd checks
wants_labels scheme (With (Verify form) other) checks = (refl, refl, refl)
wants_labels scheme (With (Simulate form) other) checks = (refl, refl, refl)
wants_labels scheme (With Recheck other) checks = absurd checks
wants_labels scheme (With (Bound code) other) checks = absurd checks
wants_labels scheme (With Watch other) checks = absurd checks
wants_labels scheme (With Convert other) checks = absurd checks
wants_labels scheme (With Splice other) checks = absurd checks
wants_labels scheme (Trial nodes seed) checks = absurd checks
wants_labels scheme (ByRules task) checks = absurd checks
wants_labels scheme (Print name) checks = absurd checks

-- and its status says whether all outcomes accept
ends_by : (scheme : Expression) (command : Command) (input : Input) (parts : List (List ℕ))
    (answer : Answer) → Checks scheme command → Yields command input parts answer
    → answer.status ≡ (if all_accept (outcomes_in command input) then Done else No)
ends_by scheme (With (Mark code) other) input parts answer checks yields = absurd checks
ends_by scheme (With (Verify form) other) input parts answer checks yields =
    ap (λ (answer : Answer). answer.status) yields
ends_by scheme (With (Simulate form) other) input parts answer checks yields =
    ap (λ (answer : Answer). answer.status) yields
ends_by scheme (With Recheck other) input parts answer checks yields = absurd checks
ends_by scheme (With (Bound code) other) input parts answer checks yields = absurd checks
ends_by scheme (With Watch other) input parts answer checks yields = absurd checks
ends_by scheme (With Convert other) input parts answer checks yields = absurd checks
ends_by scheme (With Splice other) input parts answer checks yields = absurd checks
ends_by scheme (Trial nodes seed) input parts answer checks yields = absurd checks
ends_by scheme (ByRules task) input parts answer checks yields = absurd checks
ends_by scheme (Print name) input parts answer checks yields = absurd checks

-- `Done` says that all do, and `No` that some does not
pub done_all : (all : Bool) → (if all then Done else No) ≡ Done → all ≡ true
done_all true done = refl
done_all false done = absurd (cc)

no_some : (all : Bool) → (if all then Done else No) ≡ No → all ≡ false
no_some true ends = absurd (cc)
no_some false ends = refl

-- a refusal is neither
pub refused_not_done : (error : TextError) → refusal_status error ≡ Done → ⊥
refused_not_done (Form line) done = cc
refused_not_done (Limit quantity) done = cc
refused_not_done (Sense number place) done = cc
refused_not_done NoMemory done = cc

refused_not_no : (error : TextError) → refusal_status error ≡ No → ⊥
refused_not_no (Form line) ends = cc
refused_not_no (Limit quantity) ends = cc
refused_not_no (Sense number place) ends = cc
refused_not_no NoMemory ends = cc

-- so it has judged nothing
pub refused_not_judged : (error : TextError) (status : Status) → status ≡ refusal_status error
    → IsJudged status → ⊥
refused_not_judged error status same judged = elim judged [
  | inl done ↦ refused_not_done error (sym same ∙ done)
  | inr ends ↦ refused_not_no error (sym same ∙ ends)
]

-- each code is taken from the front of its own codes alone
pub takes_only : (code : CodeName) → TakesOnly (number_code_of code) (takes_of code)
takes_only Gamma = λ bits number rest taken. gamma_takes-only bits number rest taken
takes_only Delta = λ bits number rest taken. delta_takes-only bits number rest taken

-- a component whose nodes all accept the labels has the property
part_accepted : (code : CodeName) (scheme : Expression) (rows : List NodeRow)
    (labels : List (List Bool)) → IsNetwork rows → length labels ≡ length rows
    → (places : List ℕ) → IsComponent rows places
    → AcceptAt (judge_in code scheme) rows labels places
    → HasProperty scheme (items_at rows places)
part_accepted code scheme rows labels network each places is accepted =
    part_holds rows network labels each places is (judge_in code scheme) (HasProperty scheme)
    (expression_sound (number_code_of code) (takes_of code) (takes_only code) scheme) accepted

-- where all nodes accept, each component has it
pub accepted_holds : (code : CodeName) (scheme : Expression) (rows : List NodeRow)
    (labels : List (List Bool)) → IsNetwork rows → length labels ≡ length rows
    → AllAccept (judge_in code scheme) rows labels → Holds scheme rows
accepted_holds code scheme rows labels network each accepted = λ places is.
    part_accepted code scheme rows labels network each places is
    (All-items (views rows labels) (λ (view : Seen). judge_in code scheme view ≡ Accept) accepted
    places)

-- a component whose outcomes all accept has the property
component_holds : (scheme : Expression) (command : Command) (bytes : List ℕ) (input : Input)
    (places : List ℕ) → Checks scheme command → IsInputTo command bytes input
    → IsComponent (rows_in input) places
    → all_accept (items_at (outcomes_in command input) places) ≡ true
    → HasProperty scheme (items_at (rows_in input) places)
component_holds scheme command bytes input places checks is component all =
    let wants = wants_labels scheme command checks in
    part_accepted (code_in input) scheme (rows_in input) (labels_in input)
    (readable (input_parts_of command) (read_by command bytes) input is wants.0).network
    (each (input_parts_of command) (read_by command bytes) input is wants.1) places component
    (all_judged scheme command input places checks all)

-- `Done` says that each component of the network of the input has the property
pub done_proves : (scheme : Expression) (command : Command) (bytes : List ℕ) (answer : Answer)
    → Checks scheme command → Answers command bytes answer → answer.status ≡ Done
    → Proves scheme bytes
done_proves scheme command bytes answer checks answers done = elim answers [
  | inl refused ↦
      absurd (refused_not_done refused.0
      (sym (ap (λ (answer : Answer). answer.status) refused.2) ∙ done))
  | inr works ↦
      let input : Input = works.input in
      let wants = wants_labels scheme command checks in
      let reads_all : read_by command bytes ≡ bytes =
      ap (λ (reads : Bool). if reads then bytes else []) wants.2 in
      let all = done_all (all_accept (outcomes_in command input))
      (sym (ends_by scheme command input works.parts answer checks works.yields) ∙ done) in
      record {
        rows = rows_in input;
        is = subst (λ (read : List ℕ). BeginsWithNetwork read (rows_in input)) reads_all
            (begins_with_network (input_parts_of command) (read_by command bytes) input works.is
            wants.0);
        holds = λ places component.
            component_holds scheme command bytes input places checks works.is component
            (some_accept (outcomes_in command input) places all);
      }
]

-- where not all outcomes accept, some does not
some_fails : (rows : List (ℕ × Outcome)) → all_accept rows ≡ false → SomeFails rows
some_fails [] all = absurd (cc)
some_fails (row ∷ rows) all = by (is_accepting row.1) refl (λ e. some_fails rows e) all
  where
    by : (test : Bool) → is_accepting row.1 ≡ test → (all_accept rows ≡ false → SomeFails rows)
        → all_accept (row ∷ rows) ≡ false → SomeFails (row ∷ rows)
    by true is later all =
        let rest : all_accept rows ≡ false = rw is at all in
        let found = later rest in
        (found.0, Contains-later row rows found.0 found.1, found.2)
    by false is later all = (row, Contains-first row rows, is)

-- `No` says that some node rejects what it sees, or still waits
pub no_rejects : (scheme : Expression) (command : Command) (bytes : List ℕ) (answer : Answer)
    → Checks scheme command → Answers command bytes answer → answer.status ≡ No
    → SomeRejects command bytes
no_rejects scheme command bytes answer checks answers ends = elim answers [
  | inl refused ↦
      absurd (refused_not_no refused.0
      (sym (ap (λ (answer : Answer). answer.status) refused.2) ∙ ends))
  | inr works ↦
      let input : Input = works.input in
      let some = no_some (all_accept (outcomes_in command input))
      (sym (ends_by scheme command input works.parts answer checks works.yields) ∙ ends) in
      record {
        input = input;
        is = works.is;
        fails = some_fails (outcomes_in command input) some;
      }
]

-- of a component that lacks the property some node fails
notice_one : (scheme : Expression) (command : Command) (bytes : List ℕ) (input : Input)
    (places : List ℕ) → Checks scheme command → IsInputTo command bytes input
    → LacksAt scheme (rows_in input) places → (all : Bool)
    → all_accept (items_at (outcomes_in command input) places) ≡ all
    → SomeFails (items_at (outcomes_in command input) places)
notice_one scheme command bytes input places checks is lacks true all =
    absurd (lacks.lacks
    (component_holds scheme command bytes input places checks is lacks.component all))
notice_one scheme command bytes input places checks is lacks false all =
    some_fails (items_at (outcomes_in command input) places) all

-- so what was judged says of each
pub judged_notices : (scheme : Expression) (command : Command) (bytes : List ℕ) (answer : Answer)
    → Checks scheme command → Answers command bytes answer → IsJudged answer.status
    → Notices scheme command bytes
judged_notices scheme command bytes answer checks answers judged = elim answers [
  | inl refused ↦
      absurd (refused_not_judged refused.0 answer.status
      (ap (λ (answer : Answer). answer.status) refused.2) judged)
  | inr works ↦ record {
    input = works.input;
    is = works.is;
    notices = λ places lacks.
        notice_one scheme command bytes works.input places checks works.is lacks
        (all_accept (items_at (outcomes_in command works.input) places)) refl;
  }
]

-- `No` after `mark` says which components lack the property
pub no_lacks : (code : CodeName) (scheme : Expression) (bytes : List ℕ) (answer : Answer)
    → Answers (With (Mark code) scheme) bytes answer → answer.status ≡ No
    → Lacks scheme bytes answer.text
no_lacks code scheme bytes answer answers ends = elim answers [
  | inl refused ↦
      absurd (refused_not_no refused.0
      (sym (ap (λ (answer : Answer). answer.status) refused.2) ∙ ends))
  | inr works ↦ elim works.yields [
    | inl labels ↦
        absurd (let other : Done ≡ No = sym (ap (λ (answer : Answer). answer.status) labels.2)
        ∙ ends in cc)
    | inr lacks ↦ record {
      rows = rows_in works.input;
      is = whole_network bytes works.input works.is;
      parts = works.parts;
      components = works.takes.components;
      ids = lacks.0;
      lacking = lacks.1;
      says = ap (λ (answer : Answer). answer.text) lacks.2;
    }
  ]
]

-- the verdicts of a round that all accept
verdicts_accept : (judge : Seen → Verdict) (rows : List NodeRow) (labels : List (List Bool))
    → all_verdicts_accept (round_by judge rows labels) ≡ true → AllAccept judge rows labels
verdicts_accept judge rows labels all = λ k d within.
    let row : Seen → ℕ × Verdict = λ view. (view.id, judge view) in
    accepts (judge (get_or (views rows labels) k d))
    (AllPass-from_list_all (λ view. is_accepting (Decided (judge view))) (views rows labels)
    (sym (list_all-map (λ row. is_accepting (Decided row.1)) row (views rows labels)) ∙ all)
    k d within)

-- of a network whose nodes all accept its labels each component has the property
pub round_holds : (code : CodeName) (scheme : Expression) (rows : List NodeRow)
    (labels : List (List Bool)) → IsNetwork rows → length labels ≡ length rows
    → all_verdicts_accept (round_by (judge_in code scheme) rows labels) ≡ true
    → Holds scheme rows
round_holds code scheme rows labels network each all =
    accepted_holds code scheme rows labels network each
    (verdicts_accept (judge_in code scheme) rows labels all)
