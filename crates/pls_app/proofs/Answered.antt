-- Which answers belong to which words and bytes.
use Rattle.std.proofs.Common.{◌≡◌, ◌≢◌, ◌∙◌, ℕ, ◌+◌, ◌<◌, length, Bool, true, false, List, [], Option, Some, None, IfOk, inl, inr, Result, Ok, Err, OnOk, ap, subst, refl, sym, arith, if◌then◌else◌}
use Rattle.std.specs.Io.KnownBytes.{Appends}
use Rattle.pls_streams.specs.Streams.{LosesFirst}
use Rattle.pls_streams.specs.declared.text_error.TextError.{TextError}
use Rattle.pls_streams.specs.declared.text_error.TextError.TheVariants.{Limit, NoMemory}
use Rattle.pls_streams.specs.declared.text_error.Quantity.TheVariants.{Input as InputBytes}
use Rattle.pls_configuration.specs.declared.status.Status.{Status}
use Rattle.pls_configuration.specs.declared.status.Status.TheVariants.{Done, No, Refused, Limit as OverLimit}
use Rattle.pls_report.specs.Report.{all_accept}
use Rattle.pls_configuration.specs.declared.limits.TheConstants.{MAX_INPUT}
use Rattle.pls_components.proofs.Empty.{empty_parts}
use Rattle.pls_inputs.specs.Parts.{code_in, Input, no_parts, labels_in, rows_in}
use Rattle.pls_inputs.specs.Order.{IsInput, IsNoInput}
use Rattle.pls_app.specs.declared.command.Command.{Command}
use Rattle.pls_app.specs.declared.command.Command.TheVariants.{ByRules, Print, Trial, With}
use Rattle.pls_app.specs.declared.command.Task.TheVariants.{Mark, Verify, Simulate, Recheck, Watch, Bound, Convert, Splice}
use Rattle.pls_app.specs.declared.command.RuleTask.TheVariants.{Code, Judge, Splice as SpliceByRules}
use Rattle.pls_names.specs.declared.scheme_name.SchemeName.{SchemeName}
use Rattle.pls_app.specs.Ruled.{rules_answer}
use Rattle.pls_app.specs.Command.{IsCommand, IsUsage, input_parts_of, read_by, reads_source}
use Rattle.pls_app.specs.Reports.{rounds_end_well}
use Rattle.pls_app.specs.Looks.{looks_end_well, looks_in}
use Rattle.pls_app.specs.Meant.{judge_in}
use Rattle.pls_app.specs.Said.{Answer}
use Rattle.pls_app.specs.Answer.{Answers, IsAnswer, IsInputTo, IsRefused, RefusesInput, Yields, outcomes_in, refusal_answer, usage_answer}
use Rattle.pls_app.specs.Trial.{IsTrialAnswer}
use Rattle.pls_app.specs.Run.{IsAnswered, IsJudged, IsRefusalStatus, TellsAnswer, TellsRefusal}
use Rattle.pls_app.specs.inner.Tasks.{DoesWork}
use Rattle.pls_app.proofs.Commands.{one_command}
use Rattle.pls_app.proofs.OneAnswer.{one_answer}
use Rattle.pls_app.proofs.Spliced.{splice_ends}

-- more bytes than the limit are refused
pub too_long : (command : Command) → reads_source command ≡ true → (old new : Option (List ℕ))
    (bytes : List ℕ) → LosesFirst old new (MAX_INPUT + 1) → old ≡ Some bytes
    → IsRefused command bytes (Limit InputBytes)
too_long command wants old new bytes lost told =
    let here : LosesFirst (Some bytes) new (MAX_INPUT + 1) = rw told at lost in
    let long : MAX_INPUT < length bytes = omega (arith, here.0) in
    inl (inl (
      refl,
      subst (λ (read : Bool). MAX_INPUT < length (if read then bytes else [])) (sym wants) long,
    ))

-- an input that is refused is answered so
pub refused_answer : (command : Command) (bytes : List ℕ) (error : TextError) (answer : Answer)
    → IsRefused command bytes error → answer ≡ refusal_answer error → Answers command bytes answer
refused_answer command bytes error answer refused same = inl (error, refused, same)

-- words that ask for nothing are answered so
pub usage_is_answered : (words : List (List ℕ)) (bytes : List ℕ) → IsUsage words
    → IsAnswer words bytes usage_answer
usage_is_answered words bytes none = inl (none, refl)

-- the answer to a command is the answer to its words
pub command_answer : (words : List (List ℕ)) (bytes : List ℕ) (command : Command) (answer : Answer)
    → IsCommand words command → Answers command bytes answer → IsAnswer words bytes answer
command_answer words bytes command answer is answers = inr (command, is, answers)

-- no bytes are the input of a command that has no parts
abbrev blank : Input
blank = record {
  network = None;
  labels = None;
  schedule = None;
  edits = None;
  watch = None;
  rules = None;
}

blank_is : IsInput no_parts [] blank
blank_is = record {
  short = omega arith;
  says = record {
    has = record { network = tt; labels = tt; schedule = tt; edits = tt; watch = tt; rules = tt };
    is = refl;
  };
  accepted = refl;
}

-- so is the answer to a trial
pub trial_answers : (bytes : List ℕ) (nodes seed : ℕ) (answer : Answer)
    → IsTrialAnswer nodes seed answer → Answers (Trial nodes seed) bytes answer
trial_answers bytes nodes seed answer tried =
    inr (record {
      input = blank;
      is = blank_is;
      parts = [];
      takes = record { components = empty_parts; accepted = refl };
      yields = tried;
    })

-- and that which prints a rule set
pub print_answers : (bytes : List ℕ) (name : SchemeName) (answer : Answer) → answer ≡ rules_answer name
    → Answers (Print name) bytes answer
print_answers bytes name answer same =
    inr (record {
      input = blank;
      is = blank_is;
      parts = [];
      takes = record { components = empty_parts; accepted = refl };
      yields = same;
    })

-- an answer depends on no more of the bytes than is read of them
again : (command : Command) (bytes : List ℕ) (answer : Answer) → Answers command [] answer
    → read_by command [] ≡ read_by command bytes → Answers command bytes answer
again command bytes answer answers same =
    let parts = input_parts_of command in
    elim answers [
      | inl refused ↦ inl (
        refused.0,
        elim refused.1 [
          | inl none ↦
              inl (subst (λ (read : List ℕ). IsNoInput parts read refused.0) same none)
          | inr found ↦ inr (
            found.0,
            subst (λ (read : List ℕ). IsInput parts read found.0) same found.1,
            found.2,
          )
        ],
        refused.2,
      )
      | inr works ↦
          inr (record {
            input = works.input;
            is = subst (λ (read : List ℕ). IsInput parts read works.input) same works.is;
            parts = works.parts;
            takes = works.takes;
            yields = works.yields;
          })
    ]

-- a command that reads nothing has the same answer to all bytes
pub unread_answers : (command : Command) (bytes : List ℕ) (answer : Answer)
    → reads_source command ≡ false → Answers command [] answer → Answers command bytes answer
unread_answers (With task scheme) bytes answer none answers = absurd (cc)
unread_answers (ByRules task) bytes answer none answers = absurd (cc)
unread_answers (Trial nodes seed) bytes answer none answers = again (Trial nodes seed) bytes answer answers refl
unread_answers (Print name) bytes answer none answers = again (Print name) bytes answer answers refl

-- the command of the words is one
pub same_command : (words : List (List ℕ)) (command other : Command) (bytes : List ℕ)
    (answer : Answer) → IsCommand words command → IsCommand words other
    → Answers command bytes answer → Answers other bytes answer
same_command words command other bytes answer is is_other answers =
    subst (λ (command : Command). Answers command bytes answer)
    (one_command words command other is is_other) answers

-- what is no input is answered so
pub answered_by_refusal : {E : Type 0} (command : Command) (bytes : List ℕ)
    (error : TextError) (r : Result Answer E)
    → (error ≢ NoMemory → IsNoInput (input_parts_of command) (read_by command bytes) error)
    → IfOk r (λ answer. answer ≡ refusal_answer error) → OnOk r (error ≢ NoMemory)
    → IfOk r (λ answer. Answers command bytes answer)
answered_by_refusal command bytes error (Ok answer) refused says some =
    refused_answer command bytes error answer (inl (refused some)) says
answered_by_refusal command bytes error (Err e) refused says some = tt

-- the answer to a refusal is told
pub tells_refusal : (words : List (List ℕ)) (command : Command) (bytes : List ℕ) (error : TextError)
    (status : Status) (old new : Option (List ℕ)) → IsCommand words command
    → IsRefused command bytes error → TellsAnswer words bytes status old new
    → TellsRefusal error status old new
tells_refusal words command bytes error status old new is refused told =
    let due : IsAnswer words bytes (refusal_answer error) =
    command_answer words bytes command (refusal_answer error) is
    (refused_answer command bytes error (refusal_answer error) refused refl) in
    let same = one_answer words bytes told.answer (refusal_answer error) told.is due in
    record {
      ends = told.ends ∙ ap (λ (answer : Answer). answer.status) same;
      took = subst (λ (answer : Answer). Appends old new answer.text) same told.took;
    }

-- the answer to the words is the answer to their command
pub answer_of_command : (words : List (List ℕ)) (bytes : List ℕ) (command : Command)
    (answer : Answer) → IsCommand words command → IsAnswer words bytes answer
    → Answers command bytes answer
answer_of_command words bytes command answer is answers = elim answers [
  | inl none ↦ absurd (none.0 command is)
  | inr found ↦ same_command words found.0 command bytes answer found.1 is found.2
]

-- a command answers what its refusal or its work says
pub does_answer : (command : Command) (bytes : List ℕ) (input : Input) (answer : Answer)
    → IsInputTo command bytes input → DoesWork command input answer → Answers command bytes answer
does_answer command bytes input answer is work = elim work.does [
  | inl refused ↦
      let refuses : RefusesInput command input refused.0 = record {
        parts = work.parts;
        components = work.components;
        refused = refused.1;
      } in
      inl (refused.0, inr (input, is, refuses), refused.2)
  | inr done ↦
      inr (record {
        input = input;
        is = is;
        parts = work.parts;
        takes = record { components = work.components; accepted = done.0 };
        yields = done.1;
      })
]

-- a report is `Done` or `No`
report_ends : (all : Bool) → IsJudged (if all then Done else No)
report_ends true = inl refl
report_ends false = inr refl

-- the status of an answer is that of another that is the same
ends_so : (answer other : Answer) → answer ≡ other → IsJudged other.status → IsJudged answer.status
ends_so answer other same ends =
    subst IsJudged (sym (ap (λ (answer : Answer). answer.status) same)) ends

-- what a command answers to an input is `Done` or `No`
yields_end : (command : Command) (input : Input) (parts : List (List ℕ)) (answer : Answer)
    → Yields command input parts answer → IsJudged answer.status
yields_end (With (Mark code) scheme) input parts answer yields = elim yields [
  | inl marked ↦ inl (ap (λ (answer : Answer). answer.status) marked.2)
  | inr lacks ↦ inr (ap (λ (answer : Answer). answer.status) lacks.2)
]
yields_end (With (Verify form) scheme) input parts answer yields =
    ends_so answer _ yields (report_ends (all_accept (outcomes_in (With (Verify form) scheme) input)))
yields_end (With (Simulate form) scheme) input parts answer yields =
    ends_so answer _ yields
    (report_ends (all_accept (outcomes_in (With (Simulate form) scheme) input)))
yields_end (With Recheck scheme) input parts answer yields =
    ends_so answer _ yields.2 (report_ends (rounds_end_well yields.0))
yields_end (With (Bound code) scheme) input parts answer yields =
    inl (ap (λ (answer : Answer). answer.status) yields)
yields_end (With Watch scheme) input parts answer yields =
    ends_so answer _ yields
    (report_ends (looks_end_well (looks_in (judge_in (code_in input) scheme) input)))
yields_end (With Convert scheme) input parts answer yields =
    inl (ap (λ (answer : Answer). answer.status) yields)
yields_end (With Splice scheme) input parts answer yields =
    splice_ends (code_in input) (rows_in input) (labels_in input) answer yields
yields_end (Trial nodes seed) input parts answer yields = inl yields.ends
yields_end (ByRules (Judge form)) input parts answer yields =
    ends_so answer _ yields (report_ends (all_accept (outcomes_in (ByRules (Judge form)) input)))
yields_end (ByRules Code) input parts answer yields =
    inl (ap (λ (answer : Answer). answer.status) yields)
yields_end (ByRules SpliceByRules) input parts answer yields =
    splice_ends (code_in input) (rows_in input) (labels_in input) answer yields
yields_end (Print name) input parts answer yields =
    inl (ap (λ (answer : Answer). answer.status) yields)

-- `Done` and `No` are no refusals
no_refusal : (status : Status) → IsJudged status → IsRefusalStatus status → ⊥
no_refusal status ends refusal = elim ends [
  | inl done ↦ elim refusal [
    | inl refused ↦ let other : Refused ≡ Done = sym refused ∙ done in cc
    | inr limit ↦ let other : OverLimit ≡ Done = sym limit ∙ done in cc
  ]
  | inr lacks ↦ elim refusal [
    | inl refused ↦ let other : Refused ≡ No = sym refused ∙ lacks in cc
    | inr limit ↦ let other : OverLimit ≡ No = sym limit ∙ lacks in cc
  ]
]

-- a refusal is an answer
pub refusal_answered : (status : Status) → IsRefusalStatus status → IsAnswered status
refusal_answered status refusal = elim refusal [
  | inl refused ↦ rw refused tt
  | inr limit ↦ rw limit tt
]

-- a run that ends in a refusal has refused
pub refusal_has_cause : (words : List (List ℕ)) (command : Command) (bytes : List ℕ)
    (status : Status) (old new : Option (List ℕ)) → IsCommand words command
    → TellsAnswer words bytes status old new → IsRefusalStatus status
    → (error : TextError) × IsRefused command bytes error
refusal_has_cause words command bytes status old new is told refusal =
    elim (answer_of_command words bytes command told.answer is told.is) [
      | inl refused ↦ (refused.0, refused.1)
      | inr works ↦
          absurd (no_refusal told.answer.status (yields_end command works.input works.parts told.answer works.yields)
          (subst IsRefusalStatus told.ends refusal))
    ]

-- a run on bytes that are not refused ends with what it found
pub unrefused_judged : (words : List (List ℕ)) (command : Command) (bytes : List ℕ)
    (status : Status) (old new : Option (List ℕ)) → IsCommand words command
    → ((error : TextError) → IsRefused command bytes error → ⊥)
    → TellsAnswer words bytes status old new → IsJudged status
unrefused_judged words command bytes status old new is unrefused told =
    elim (answer_of_command words bytes command told.answer is told.is) [
      | inl refused ↦ absurd (unrefused refused.0 refused.1)
      | inr works ↦
          subst IsJudged (sym told.ends)
          (yields_end command works.input works.parts told.answer works.yields)
    ]
