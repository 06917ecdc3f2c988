-- Words and bytes have one answer.
use Rattle.std.proofs.Common.{◌≡◌, ◌∙◌, ℕ, Bool, List, [], ◌∷◌, inl, inr, ap, subst, refl, sym}
use Rattle.pls_configuration.specs.declared.row.NodeRow.{NodeRow}
use Rattle.pls_configuration.specs.Configuration.{IsNetwork}
use Rattle.pls_lines.specs.Text.{text_of}
use Rattle.pls_trial.specs.Generator.{trial_of}
use Rattle.pls_expressions.specs.Expression.{Expression, HasProperty}
use Rattle.pls_combine.specs.Expression.{IsMarked}
use Rattle.pls_combine.specs.laws.ExpressionLaws.{expression_marked_once}
use Rattle.pls_components.specs.Components.{AreComponents, HasInEach}
use Rattle.pls_components.specs.Parts.{AreLacking}
use Rattle.pls_components.proofs.OneMarking.{one_labelling, one_lacking}
use Rattle.pls_graph.proofs.Members.{Contains-first}
use Rattle.pls_edits.specs.declared.edit_line.EditLine.TheVariants.{Round}
use Rattle.pls_inputs.specs.Parts.{Input, code_in, edits_in, labels_in, rows_in}
use Rattle.pls_inputs.proofs.Facts.{readable}
use Rattle.pls_inputs.proofs.OneInput.{one_input}
use Rattle.pls_bits.specs.declared.code_name.CodeName.{CodeName}
use Rattle.pls_bits.specs.declared.code_name.CodeName.TheVariants.{Gamma}
use Rattle.pls_app.specs.declared.command.RuleTask.TheVariants.{Code, Judge, Splice as SpliceByRules}
use Rattle.pls_app.specs.declared.command.Command.{Command}
use Rattle.pls_app.specs.declared.command.Command.TheVariants.{ByRules, Print, Trial, With}
use Rattle.pls_app.specs.declared.command.Task.TheVariants.{Mark, Verify, Simulate, Recheck, Watch, Bound, Convert, Splice}
use Rattle.pls_app.specs.Command.{input_parts_of, read_by}
use Rattle.pls_app.specs.Meant.{number_code_of, judge_in}
use Rattle.pls_app.specs.Reports.{first_situation}
use Rattle.pls_app.specs.Said.{Answer}
use Rattle.pls_app.specs.Answer.{Answers, IsAnswer, IsInputTo, Marks, Works, Yields, labels_answer, no_answer, refusal_answer, rounds_answer}
use Rattle.pls_app.specs.Trial.{IsTrialAnswer, trial_line, tried_scheme}
use Rattle.pls_app.proofs.Commands.{one_command}
use Rattle.pls_app.proofs.OneRefusal.{one_parts, one_refusal, refused_untaken}
use Rattle.pls_app.proofs.Rechecked.{one_reports}
use Rattle.pls_app.proofs.Spliced.{one_splice}

-- not all components have a property that some of them lack
not_both : (holds : List NodeRow → Type 0) (rows : List NodeRow) (ids : List ℕ)
    → HasInEach holds rows → AreLacking holds rows ids → ⊥
not_both holds rows [] has lacking = lacking.some refl
not_both holds rows (id ∷ ids) has lacking =
    let found = lacking.each id (Contains-first id ids) in
    found.1.lacks (has found.0 found.1.component)

-- the marks of a network have one answer
one_mark : (code : CodeName) (scheme : Expression) (rows : List NodeRow) (parts : List (List ℕ))
    (answer other : Answer) → IsNetwork rows → AreComponents rows parts
    → Marks code scheme rows parts answer → Marks code scheme rows parts other → answer ≡ other
one_mark code scheme rows parts answer other network are one two = elim one [
  | inl mine ↦ elim two [
    | inl theirs ↦
        let labels : mine.0 ≡ theirs.0 =
        one_labelling rows network (HasProperty scheme) (IsMarked (number_code_of code) scheme)
        (expression_marked_once (number_code_of code) scheme) parts are mine.1.holds mine.0 theirs.0
        mine.1.each theirs.1.each mine.1.marks theirs.1.marks in
        mine.2 ∙ ap (labels_answer code rows) labels ∙ sym theirs.2
    | inr lacks ↦ absurd (not_both (HasProperty scheme) rows lacks.0 mine.1.holds lacks.1)
  ]
  | inr lacks ↦ elim two [
    | inl theirs ↦ absurd (not_both (HasProperty scheme) rows lacks.0 theirs.1.holds lacks.1)
    | inr too ↦
        let ids : lacks.0 ≡ too.0 =
        one_lacking (HasProperty scheme) rows lacks.0 too.0 lacks.1 too.1 in
        lacks.2 ∙ ap (no_answer parts) ids ∙ sym too.2
  ]
]

-- a trial has one answer
one_tried : (nodes seed : ℕ) (answer other : Answer) → IsTrialAnswer nodes seed answer
    → IsTrialAnswer nodes seed other → answer ≡ other
one_tried nodes seed answer other one two =
    let labels : one.labels ≡ two.labels =
    expression_marked_once (number_code_of Gamma) tried_scheme (trial_of nodes seed) one.labels two.labels
    one.valid one.marked.joined one.marked.has one.marked.marked two.marked.marked in
    let texts : answer.text ≡ other.text =
    one.text ∙ ap (λ (labels : List (List Bool)). text_of (trial_line (trial_of nodes seed) labels ∷ []))
    labels ∙ sym two.text in
    let ends : answer.status ≡ other.status = one.ends ∙ sym two.ends in
    λ i. record { status = ends i; text = texts i }

-- a command answers an input in one way
one_yield : (command : Command) (bytes : List ℕ) (input : Input) (parts : List (List ℕ))
    (answer other : Answer) → IsInputTo command bytes input → AreComponents (rows_in input) parts
    → Yields command input parts answer → Yields command input parts other → answer ≡ other
one_yield (With (Mark code) scheme) bytes input parts answer other is are one two =
    one_mark code scheme (rows_in input) parts answer other
    (readable (input_parts_of (With (Mark code) scheme)) bytes input is refl).network are one two
one_yield (With (Verify form) scheme) bytes input parts answer other is are one two = one ∙ sym two
one_yield (With (Simulate form) scheme) bytes input parts answer other is are one two = one ∙ sym two
one_yield (With Recheck scheme) bytes input parts answer other is are one two =
    let same = one_reports (judge_in (code_in input) scheme) (Round ∷ edits_in input) (first_situation input) 0 one.0
    two.0 one.1 two.1 in
    one.2 ∙ ap rounds_answer same ∙ sym two.2
one_yield (With (Bound code) scheme) bytes input parts answer other is are one two = one ∙ sym two
one_yield (With Watch scheme) bytes input parts answer other is are one two = one ∙ sym two
one_yield (With Convert scheme) bytes input parts answer other is are one two = one ∙ sym two
one_yield (With Splice scheme) bytes input parts answer other is are one two =
    one_splice (code_in input) (rows_in input) (labels_in input)
    (readable (input_parts_of (With Splice scheme)) bytes input is refl).network answer other one
    two
one_yield (Trial nodes seed) bytes input parts answer other is are one two =
    one_tried nodes seed answer other one two
one_yield (ByRules (Judge form)) bytes input parts answer other is are one two = one ∙ sym two
one_yield (ByRules Code) bytes input parts answer other is are one two = one ∙ sym two
one_yield (ByRules SpliceByRules) bytes input parts answer other is are one two =
    one_splice (code_in input) (rows_in input) (labels_in input)
    (readable (input_parts_of (ByRules SpliceByRules)) bytes input is refl).network answer other
    one two
one_yield (Print name) bytes input parts answer other is are one two = one ∙ sym two

-- what a command takes it answers in one way
one_work : (command : Command) (bytes : List ℕ) (answer other : Answer)
    → Works command bytes answer → Works command bytes other → answer ≡ other
one_work command bytes answer other one two =
    let inputs : two.input ≡ one.input =
    one_input (input_parts_of command) (read_by command bytes) two.input one.input two.is one.is in
    let are : AreComponents (rows_in one.input) two.parts =
    subst (λ (input : Input). AreComponents (rows_in input) two.parts) inputs two.takes.components in
    let parts : two.parts ≡ one.parts =
    one_parts command bytes one.input two.parts one.parts one.is are one.takes.components in
    one_yield command bytes one.input one.parts answer other one.is one.takes.components one.yields
    (subst (λ (parts : List (List ℕ)). Yields command one.input parts other) parts
    (subst (λ (input : Input). Yields command input two.parts other) inputs two.yields))

-- a command on bytes has one answer
one_of_command : (command : Command) (bytes : List ℕ) (answer other : Answer)
    → Answers command bytes answer → Answers command bytes other → answer ≡ other
one_of_command command bytes answer other one two = elim one [
  | inl refused ↦ elim two [
    | inl too ↦
        refused.2 ∙ ap refusal_answer (one_refusal command bytes refused.0 too.0 refused.1 too.1)
        ∙ sym too.2
    | inr works ↦
        absurd (refused_untaken command bytes refused.0 works.input works.parts refused.1 works.is
        works.takes)
  ]
  | inr works ↦ elim two [
    | inl refused ↦
        absurd (refused_untaken command bytes refused.0 works.input works.parts refused.1 works.is
        works.takes)
    | inr too ↦ one_work command bytes answer other works too
  ]
]

-- words and bytes have one answer
pub one_answer : (words : List (List ℕ)) (bytes : List ℕ) (answer other : Answer)
    → IsAnswer words bytes answer → IsAnswer words bytes other → answer ≡ other
one_answer words bytes answer other one two = elim one [
  | inl none ↦ elim two [
    | inl too ↦ none.1 ∙ sym too.1
    | inr found ↦ absurd (none.0 found.0 found.1)
  ]
  | inr found ↦ elim two [
    | inl none ↦ absurd (none.0 found.0 found.1)
    | inr too ↦
        one_of_command found.0 bytes answer other found.2
        (subst (λ (command : Command). Answers command bytes other)
        (one_command words too.0 found.0 too.1 found.1) too.2)
  ]
]
