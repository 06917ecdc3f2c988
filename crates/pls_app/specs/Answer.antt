-- What a run answers: a status and a text, from its words and its input.
use Rattle.std.specs.Prelude.{◌≡◌, ◌⊎◌, ℕ, ◌+◌, Bool, true, false, List, [], ◌∷◌, codes, decimal, length, map, Option, Some, None, if◌then◌else◌}
use Rattle.pls_streams.specs.declared.text_error.TextError.{TextError}
use Rattle.pls_streams.specs.declared.text_error.TextError.TheVariants.{Form, Limit, Sense, NoMemory}
use Rattle.pls_streams.specs.declared.text_error.Quantity.TheVariants.{Labels}
use Rattle.pls_streams.specs.Quantity.{quantity_text}
use Rattle.pls_configuration.specs.declared.status.Status.{Status}
use Rattle.pls_configuration.specs.declared.status.Status.TheVariants.{Done, No, Usage, Refused, Limit as OverLimit, NoMemory as OutOfMemory}
use Rattle.pls_configuration.specs.declared.row.NodeRow.{NodeRow}
use Rattle.pls_lines.specs.Text.{line_of, text_of}
use Rattle.pls_configuration.specs.declared.limits.TheConstants.{MAX_BITS}
use Rattle.pls_sim.specs.declared.outcome.Outcome.{Outcome}
use Rattle.pls_sim.specs.Schedule.{played_by}
use Rattle.pls_report.specs.declared.component_row.ComponentRow.{ComponentRow}
use Rattle.pls_report.specs.Report.{all_accept, report_text}
use Rattle.pls_report.specs.ComponentLines.{if_several}
use Rattle.pls_components.specs.Components.{AreComponents}
use Rattle.pls_expressions.specs.Expression.{Expression}
use Rattle.pls_json.specs.Json.{json_text}
use Rattle.pls_inputs.specs.Parts.{Input, code_in, edits_in, events_in, labels_in, net_labels_text, rows_in, watch_in}
use Rattle.pls_inputs.specs.Order.{IsInput, IsNoInput, edits_heading, over, schedule_heading, watch_heading}
use Rattle.pls_bits.specs.declared.code_name.CodeName.{CodeName}
use Rattle.pls_bits.specs.declared.code_name.CodeName.TheVariants.{Delta}
use Rattle.pls_app.specs.declared.command.ReportForm.{ReportForm}
use Rattle.pls_app.specs.declared.command.ReportForm.TheVariants.{Json, Lines}
use Rattle.pls_app.specs.declared.command.RuleTask.TheVariants.{Code, Judge, Splice as SpliceByRules}
use Rattle.pls_app.specs.declared.command.Command.{Command}
use Rattle.pls_app.specs.declared.command.Command.TheVariants.{ByRules, Print, Trial, With}
use Rattle.pls_app.specs.declared.command.Task.TheVariants.{Mark, Verify, Simulate, Recheck, Watch, Bound, Convert, Splice}
use Rattle.pls_app.specs.Command.{IsCommand, IsUsage, input_parts_of, read_by}
use Rattle.pls_app.specs.Meant.{AreMarks, Holds, NameLacking, bound_in, judge_in, room_in}
use Rattle.pls_app.specs.ComponentRows.{component_rows}
use Rattle.pls_app.specs.Convert.{converted_labels, convert_refusal}
use Rattle.pls_app.specs.Splice.{Splices, splice_refusal}
use Rattle.pls_app.specs.ScheduleRefusal.{schedule_refusal}
use Rattle.pls_app.specs.WatchRefusal.{watch_lines_refusal}
use Rattle.pls_app.specs.EditsRefusal.{edits_refusal}
use Rattle.pls_bits.specs.Gamma.{gamma_takes}
use Rattle.pls_compile.specs.RuleMeaning.{meaning}
use Rattle.pls_app.specs.Ruled.{code_answer, rules_answer, set_in}
use Rattle.pls_app.specs.Reports.{Report, ReportInput, decided_by, reports_text, rounds_end_well}
use Rattle.pls_app.specs.Looks.{looks_answer, looks_in}
use Rattle.pls_app.specs.Said.{Answer}
use Rattle.pls_app.specs.Trial.{IsTrialAnswer}

-- the answer to words that are no command
abbrev pub usage_answer : Answer
usage_answer = record { status = Usage; text = text_of (codes "usage" ∷ []) }

-- the status of a refusal
abbrev pub refusal_status : TextError → Status
refusal_status (Form line) = Refused
refusal_status (Limit quantity) = OverLimit
refusal_status (Sense number place) = Refused
refusal_status NoMemory = OutOfMemory

-- the line that says a refusal; want of memory has none, and no input is refused for it
abbrev pub refusal_line : TextError → List ℕ
refusal_line (Form line) = line_of (codes "refused" ∷ codes "form" ∷ codes "at" ∷ decimal line ∷ [])
refusal_line (Limit quantity) = line_of (codes "limit" ∷ quantity_text quantity ∷ [])
refusal_line (Sense number place) =
    line_of (codes "refused" ∷ decimal number ∷ codes "at" ∷ decimal place ∷ [])
refusal_line NoMemory = []

-- the answer to an input that is refused
abbrev pub refusal_answer : TextError → Answer
refusal_answer error =
    record { status = refusal_status error; text = text_of (refusal_line error ∷ []) }

-- the text of a report with what is told of the components, in a form
abbrev pub report_in : ReportForm → Bool → List ComponentRow → List (ℕ × Outcome) → List ℕ
report_in Lines simulated parts outcomes = report_text simulated parts outcomes
report_in Json simulated parts outcomes = json_text parts outcomes

-- the answer with a report of what became of the nodes of a network with these components
abbrev pub report_answer : ReportForm → Bool → List NodeRow → List (List ℕ)
    → List (ℕ × Outcome) → Answer
report_answer form simulated rows parts outcomes = record {
  status = if all_accept outcomes then Done else No;
  text = report_in form simulated (component_rows rows parts outcomes) outcomes;
}

-- the answer with the number of bits that a label has at most
abbrev pub bound_answer : ℕ → Answer
bound_answer number = record {
  status = Done;
  text = text_of (line_of (codes "bound" ∷ decimal number ∷ []) ∷ []);
}

-- the answer to a network with these components, of which those with these smallest identities lack
-- the property: they are named where there is more than one component
abbrev pub no_answer : List (List ℕ) → List ℕ → Answer
no_answer parts ids = record {
  status = No;
  text = text_of (line_of (codes "no" ∷ if_several parts (map decimal ids)) ∷ []);
}

-- the answer with the labels of a network, under a code
abbrev pub labels_answer : CodeName → List NodeRow → List (List Bool) → Answer
labels_answer code rows labels =
    record { status = Done; text = net_labels_text code rows labels }

-- the answer with the reports of rounds
abbrev pub rounds_answer : List Report → Answer
rounds_answer reports = record {
  status = if rounds_end_well reports then Done else No;
  text = reports_text reports;
}

-- the outcomes that `verify`, `simulate` or `judge` reports; of any other command none
abbrev pub outcomes_in : Command → Input → List (ℕ × Outcome)
outcomes_in (With (Verify form) scheme) input =
    decided_by (judge_in (code_in input) scheme) (rows_in input) (labels_in input)
outcomes_in (With (Simulate form) scheme) input =
    played_by (judge_in (code_in input) scheme) (rows_in input) (labels_in input) (events_in input)
outcomes_in (ByRules (Judge form)) input =
    decided_by (meaning gamma_takes (set_in input)) (rows_in input) (labels_in input)
outcomes_in other input = []

-- each component has the property, and these are its marked labels
pub record AreMarked (code : CodeName) (scheme : Expression) (rows : List NodeRow)
    (labels : List (List Bool)) : Type 0 where
  pub holds : Holds scheme rows
  pub each : length labels ≡ length rows
  pub marks : AreMarks code scheme rows labels

-- the answer to `mark` on a network with these components: its labels, where each has the property,
-- else `no`
abbrev pub Marks : CodeName → Expression → List NodeRow → List (List ℕ) → Answer → Type 0
Marks code scheme rows parts answer =
    ((labels : List (List Bool)) × AreMarked code scheme rows labels
    × (answer ≡ labels_answer code rows labels))
    ⊎ ((ids : List ℕ) × NameLacking scheme rows ids × (answer ≡ no_answer parts ids))

-- the answer to `recheck` on an input: the reports of its rounds
abbrev pub Rechecks : Expression → Input → Answer → Type 0
Rechecks scheme input answer =
    (reports : List Report) × ReportInput (judge_in (code_in input) scheme) input reports
    × (answer ≡ rounds_answer reports)

-- the report of a command that judges nodes, of an input whose network has these components
abbrev pub reports_on : Command → ReportForm → Bool → Input → List (List ℕ) → Answer
reports_on command form simulated input parts =
    report_answer form simulated (rows_in input) parts (outcomes_in command input)

-- the answer of a command to an input that it does not refuse, whose network has these components
abbrev pub Yields : Command → Input → List (List ℕ) → Answer → Type 0
Yields (With (Mark code) scheme) input parts answer = Marks code scheme (rows_in input) parts answer
Yields (With (Verify form) scheme) input parts answer =
    answer ≡ reports_on (With (Verify form) scheme) form false input parts
Yields (With (Simulate form) scheme) input parts answer =
    answer ≡ reports_on (With (Simulate form) scheme) form true input parts
Yields (With Recheck scheme) input parts answer = Rechecks scheme input answer
Yields (With Watch scheme) input parts answer =
    answer ≡ looks_answer (looks_in (judge_in (code_in input) scheme) input)
Yields (With (Bound code) scheme) input parts answer =
    answer ≡ bound_answer (bound_in code scheme (rows_in input) parts)
Yields (With Convert scheme) input parts answer =
    answer ≡ labels_answer Delta (rows_in input) (converted_labels scheme input)
Yields (With Splice scheme) input parts answer =
    Splices (code_in input) (rows_in input) (labels_in input) answer
Yields (Trial nodes seed) input parts answer = IsTrialAnswer nodes seed answer
Yields (ByRules (Judge form)) input parts answer =
    answer ≡ reports_on (ByRules (Judge form)) form false input parts
Yields (ByRules Code) input parts answer = answer ≡ code_answer (set_in input)
Yields (ByRules SpliceByRules) input parts answer =
    Splices (code_in input) (rows_in input) (labels_in input) answer
Yields (Print name) input parts answer = answer ≡ rules_answer name

-- why a command refuses an input whose network has these components
abbrev pub work_refusal : Command → Input → List (List ℕ) → Option TextError
work_refusal (With (Mark code) scheme) input parts =
    over Labels MAX_BITS (room_in code scheme (rows_in input) parts)
work_refusal (With (Simulate form) scheme) input parts =
    schedule_refusal (rows_in input) (schedule_heading input + 1) (events_in input)
work_refusal (With Recheck scheme) input parts =
    edits_refusal (rows_in input) (labels_in input) (edits_heading input + 1) (edits_in input)
work_refusal (With Watch scheme) input parts =
    watch_lines_refusal (rows_in input) (watch_heading input + 1) (watch_in input)
work_refusal (With Convert scheme) input parts = convert_refusal scheme input
work_refusal (With Splice scheme) input parts =
    splice_refusal (judge_in (code_in input) scheme) (rows_in input) (labels_in input) parts
work_refusal (ByRules SpliceByRules) input parts =
    splice_refusal (meaning gamma_takes (set_in input)) (rows_in input) (labels_in input) parts
work_refusal other input parts = None

-- a command refuses an input
pub record RefusesInput (command : Command) (input : Input) (error : TextError) : Type 0 where
  pub parts : List (List ℕ)
  pub components : AreComponents (rows_in input) parts
  pub refused : work_refusal command input parts ≡ Some error

-- the command refuses nothing of an input whose network has these components
pub record TakesInput (command : Command) (input : Input) (parts : List (List ℕ)) : Type 0 where
  pub components : AreComponents (rows_in input) parts
  pub accepted : work_refusal command input parts ≡ None

-- what the command reads of the bytes is the input
abbrev pub IsInputTo : Command → List ℕ → Input → Type 0
IsInputTo command bytes input = IsInput (input_parts_of command) (read_by command bytes) input

-- the command refuses the bytes: they are no input, or it refuses the input that they are
abbrev pub IsRefused : Command → List ℕ → TextError → Type 0
IsRefused command bytes error = IsNoInput (input_parts_of command) (read_by command bytes) error
    ⊎ ((input : Input) × IsInputTo command bytes input × RefusesInput command input error)

-- the command takes the input that the bytes are, and this is its answer to it
pub record Works (command : Command) (bytes : List ℕ) (answer : Answer) : Type 0 where
  pub input : Input
  pub is : IsInputTo command bytes input
  pub parts : List (List ℕ)
  pub takes : TakesInput command input parts
  pub yields : Yields command input parts answer

-- the answer to a command on bytes
abbrev pub Answers : Command → List ℕ → Answer → Type 0
Answers command bytes answer =
    ((error : TextError) × IsRefused command bytes error × (answer ≡ refusal_answer error))
    ⊎ Works command bytes answer

-- the answer of a run: that of the command that its words are, or `usage` where they are none
abbrev pub IsAnswer : List (List ℕ) → List ℕ → Answer → Type 0
IsAnswer words bytes answer = (IsUsage words × (answer ≡ usage_answer))
    ⊎ ((command : Command) × IsCommand words command × Answers command bytes answer)
