use Rattle.std.proofs.Common.{◌≡◌, ◌∙◌, ◌+◌, ℕ, List, [], Some, None, inl, inr, length, option_map, ap, arith, subst, sym}
use Rattle.std.proofs.lemmas.Result.{IfOk-weaker}
use Rattle.pls_streams.specs.declared.refusal_number.TheConstants.{WATCH_EVENT}
use Rattle.pls_streams.specs.declared.text_error.TextError.{TextError}
use Rattle.pls_streams.specs.declared.text_error.TextError.TheVariants.{Sense}
use Rattle.pls_sim.specs.declared.outcome.Outcome.{Outcome}
use Rattle.pls_combine.specs.Expression.{judge_of}
use Rattle.pls_watch_part.specs.declared.watch_event.WatchEvent.{WatchEvent}
use Rattle.pls_watch_part.specs.declared.watch_event.WatchLine.{WatchLine}
use Rattle.pls_watch.specs.Labelled.{bits_given, labels_given}
use Rattle.pls_watch.specs.Watching.{Watched}
use Rattle.pls_inputs.specs.Parts.{Input, code_in}
use Rattle.pls_app.specs.declared.command.Command.TheVariants.{With}
use Rattle.pls_app.specs.declared.command.Task.TheVariants.{Watch}
use Rattle.pls_app.specs.Answer.{refusal_answer}
use Rattle.pls_app.specs.Looks.{look_after, looks_answer, looks_behind}
use Rattle.pls_app.specs.Meant.{takes_of}
use Rattle.pls_app.specs.WatchRefusal.{events_of, first_refused_line, watch_lines_refusal}
use Rattle.pls_app.specs.inner.Tasks.{Does}
use Rattle.pls_app.specs.inner.Watching.{AreShown, IsWatchInput}
use Rattle.pls_app.proofs.WatchLines.{few_events, few_labels, total_given}
use Rattle.pls_app.proofs.watch.watch.Goals as goal

pub start-requires-clause-relabels : goal.start-requires-clause-relabels
start-requires-clause-relabels g c =
    omega (
      arith,
      c.relabels_in-relabels.ensures.count,
      ap (λ (lines : List WatchLine). length (labels_given (events_of lines))) c.deref.ensures.value,
      few_labels (events_of c.args.lines.items),
      few_events c.args.lines.items,
      c.requires.few,
    )

pub start-requires-clause-bits : goal.start-requires-clause-bits
start-requires-clause-bits g c =
    omega (
      arith,
      c.relabels_in-relabels.ensures.bits,
      ap (λ (lines : List WatchLine). bits_given (events_of lines)) c.deref.ensures.value,
      total_given c.args.lines.items,
      c.requires.bits,
    )

pub play-requires-clause-room : goal.play-requires-clause-room
play-requires-clause-room g c =
    let lines = c.args.lines.items in
    let start = c.in_ok-watch.ensures in
    let same = c.in_ok-lookout.ensures.watched in record {
      few_events = omega (
        arith,
        ap (λ (watched : Watched). length watched.events) same,
        ap (length {A = WatchEvent}) start.none,
        ap (λ (watched : Watched). watched.most) same,
        start.most,
        few_events lines,
        ap (λ (lines : List WatchLine). length (events_of lines)) c.of.ensures,
      );
      few_relabels = omega (
        arith,
        ap (λ (watched : Watched). length (labels_given watched.events)) same,
        ap (λ (events : List WatchEvent). length (labels_given events)) start.none,
        ap (λ (watched : Watched). watched.most_relabels) same,
        start.relabels,
        c.relabels_in-relabels.ensures.count,
        ap (λ (lines : List WatchLine). length (labels_given (events_of lines))) c.deref.ensures.value,
        ap (λ (lines : List WatchLine). length (labels_given (events_of lines))) c.of.ensures,
      );
      few_bits = omega (
        arith,
        ap (λ (watched : Watched). bits_given watched.events) same,
        ap bits_given start.none,
        ap (λ (watched : Watched). watched.most_bits) same,
        start.bits,
        c.relabels_in-relabels.ensures.bits,
        ap (λ (lines : List WatchLine). bits_given (events_of lines)) c.deref.ensures.value,
        ap (λ (lines : List WatchLine). bits_given (events_of lines)) c.of.ensures,
      );
    }

pub returns-in-Some-clause-does : goal.returns-in-Some-clause-does
returns-in-Some-clause-does g c =
    let place = c.in-Some.place in
    let net = c.args.net.now in
    let lines = c.args.lines.items in
    let first = c.args.first_line in
    let command = With Watch c.args.scheme.now in
    let error : TextError = Sense WATCH_EVENT (first + place) in
    let network = ap (λ (watched : Watched). watched.network) c.in_ok-lookout.ensures.watched
    ∙ c.in_ok-watch.ensures.network in
    let some : watch_lines_refusal net first lines ≡ Some error =
    ap (option_map (λ line. Sense WATCH_EVENT line))
    ((λ i. first_refused_line (sym network i) [] first (sym c.of.ensures i))
    ∙ c.in_ok-place.ensures.place first ∙ ap (option_map (λ place. first + place)) c.in-Some.is) in
    IfOk-weaker c.refuse_at.result (λ answer. answer ≡ refusal_answer error)
    (λ answer. (input : Input) → IsWatchInput net c.args.labels.now lines first input
    → g.C.NumCode.takes ≡ takes_of (code_in input) → (parts : List (List ℕ))
    → Does command input parts answer)
    (λ answer same input is takes parts. inl (
      error,
      (λ i. watch_lines_refusal (is.net i) (sym is.at i) (is.list i)) ∙ some,
      same,
    )) c.refuse_at.ensures.says

pub returns-in-None-clause-does : goal.returns-in-None-clause-does
returns-in-None-clause-does g c input is takes parts =
    let net = c.args.net.now in
    let lines = c.args.lines.items in
    let first = c.args.first_line in
    let start = c.in_ok-watch.ensures in
    let same = c.in_ok-lookout.ensures.watched in
    let checker = c.in_ok-lookout.ensures.checker in
    let network = ap (λ (watched : Watched). watched.network) same ∙ start.network in
    let none : watch_lines_refusal net first lines ≡ None =
    ap (option_map (λ line. Sense WATCH_EVENT line))
    ((λ i. first_refused_line (sym network i) [] first (sym c.of.ensures i))
    ∙ c.in_ok-place.ensures.place first ∙ ap (option_map (λ place. first + place)) c.in-None.is) in
    let networks = network ∙ sym is.net in
    let labels = ap (λ (watched : Watched). watched.start) same ∙ start.labels ∙ sym is.store in
    let lookout = c.in_ok-lookout.lookout in
    let looks : List (List (ℕ × Outcome × List ℕ)) =
    looks_behind (look_after (judge_of g.C.NumCode.takes lookout.checker) lookout.watched.network
    lookout.watched.start) [] c.of.result in
    inr (
      (λ i. watch_lines_refusal (is.net i) (sym is.at i) (is.list i)) ∙ none,
      c.looks_answer.ensures.says looks
          (subst (λ (texts : List (List ℕ)). AreShown texts c.play.new.well looks) (sym c.into_shown.ensures.kept)
          (c.in_ok-place.ensures.shown c.in-None.is))
          ∙ (λ i. looks_answer (looks_behind (look_after (judge_of (takes i) (checker i))
          (networks i) (labels i)) [] ((c.of.ensures ∙ sym is.list) i))),
    )
