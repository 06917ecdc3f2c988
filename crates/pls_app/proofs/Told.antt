-- From what a run was due to tell, what it told.
use Rattle.std.proofs.Common.{◌≡◌, ◌∙◌, ℕ, false, List, Option, Result, Ok, Err, IsOk, MatchResult, inl, inr, length, refl, subst, sym}
use Rattle.pls_streams.specs.Streams.{Rose}
use Rattle.pls_configuration.specs.declared.status.Status.{Status}
use Rattle.pls_configuration.specs.declared.status.Status.TheVariants.{Done, No, Usage, Refused, ReadFault, WriteFault, NoMemory, Limit}
use Rattle.pls_app.specs.declared.command.Command.{Command}
use Rattle.pls_app.specs.Command.{IsCommand, IsUsage, reads_source}
use Rattle.pls_app.specs.Said.{Answer}
use Rattle.pls_app.specs.Answer.{Answers, IsAnswer}
use Rattle.pls_app.specs.inner.Tasks.{IsWorked, Offers}
use Rattle.pls_app.proofs.Answered.{command_answer}
use Rattle.pls_app.proofs.Commands.{one_command}
use Rattle.pls_app.specs.Run.{Concerns, EndsAs, IsAnswered, IsUnread, TellsAnswer, TellsPart, Took}
use Rattle.pls_app.specs.inner.Causes.{WritesOrFails}

-- an answer that was told in the end
pub tells : (words : List (List ℕ)) (bytes : List ℕ) (answer : Answer) (status : Status)
    (before after : ℕ) (old new : Option (List ℕ)) → IsAnswer words bytes answer
    → WritesOrFails answer.status status before after old new answer.text → IsAnswered status
    → TellsAnswer words bytes status old new
tells words bytes answer status before after old new is told answered = elim told [
  | inl whole ↦ record { answer = answer; is = is; ends = whole.0; took = whole.1 }
  | inr part ↦ absurd (rw part.0 at answered)
]

-- an answer that was told in part
pub tells_part : (words : List (List ℕ)) (bytes : List ℕ) (answer : Answer) (status : Status)
    (before after : ℕ) (old new : Option (List ℕ)) → IsAnswer words bytes answer
    → IsAnswered answer.status
    → WritesOrFails answer.status status before after old new answer.text → status ≡ WriteFault
    → TellsPart words bytes old new
tells_part words bytes answer status before after old new is answered told fault = elim told [
  | inl whole ↦ let same : answer.status ≡ WriteFault = cc in absurd (rw same at answered)
  | inr part ↦ record { answer = answer; is = is; took = part.2 }
]

-- a run that ends in `Done` was due to
pub told_done : (due status : Status) (before after : ℕ) (old new : Option (List ℕ)) (text : List ℕ)
    → WritesOrFails due status before after old new text → status ≡ Done → due ≡ Done
told_done due status before after old new text told done = elim told [
  | inl whole ↦ cc
  | inr part ↦ absurd (let no : WriteFault ≡ Done = cc in cc)
]

-- the sink of a run that ends as was due took the whole text
pub took : (Says : List ℕ → Type 0) (text : List ℕ) (due status end : Status) (before after : ℕ)
    (old new : Option (List ℕ)) → IsAnswered end → (due ≡ end → Says text)
    → WritesOrFails due status before after old new text → status ≡ end → Took Says old new
took Says text due status end before after old new answered says told ends = elim told [
  | inl whole ↦ record { text = text; took = whole.1; says = says (sym whole.0 ∙ ends) }
  | inr part ↦ absurd (subst IsAnswered (sym ends ∙ part.0) answered)
]

-- a run that ends in `No` was due to
pub told_no : (due status : Status) (before after : ℕ) (old new : Option (List ℕ)) (text : List ℕ)
    → WritesOrFails due status before after old new text → status ≡ No → due ≡ No
told_no due status before after old new text told ends = elim told [
  | inl whole ↦ cc
  | inr part ↦ absurd (let other : WriteFault ≡ No = cc in cc)
]

-- the answer to a command is told in the end
pub tells_command : (words : List (List ℕ)) (bytes : List ℕ) (command : Command) (answer : Answer)
    (status : Status) (before after : ℕ) (old new : Option (List ℕ))
    → IsCommand words command → Answers command bytes answer
    → WritesOrFails answer.status status before after old new answer.text → IsAnswered status
    → TellsAnswer words bytes status old new
tells_command words bytes command answer status before after old new read answers told answered =
    tells words bytes answer status before after old new
    (command_answer words bytes command answer read answers) told answered

-- the answer to a command is told in part
pub tells_part_of : (words : List (List ℕ)) (bytes : List ℕ) (command : Command) (answer : Answer)
    (status : Status) (before after : ℕ) (old new : Option (List ℕ))
    → IsCommand words command → Answers command bytes answer → IsAnswered answer.status
    → WritesOrFails answer.status status before after old new answer.text → status ≡ WriteFault
    → TellsPart words bytes old new
tells_part_of words bytes command answer status before after old new read answers ended told fault =
    tells_part words bytes answer status before after old new
    (command_answer words bytes command answer read answers) ended told fault

-- a run whose sink was sure of its text ends as was due
pub told_sure : (words : List (List ℕ)) (bytes : List ℕ) (answer : Answer) (status : Status)
    (sure : ℕ → Type 0) (command : Command) → IsCommand words command
    → Answers command bytes answer
    → ((answer : Answer) → IsAnswer words bytes answer → sure (length answer.text))
    → (sure (length answer.text) → status ≡ answer.status) → status ≡ answer.status
told_sure words bytes answer status sure command read answers each ends =
    ends (each answer (command_answer words bytes command answer read answers))

-- a run that wrote no answer, although one was due, met a write that failed
pub told_answered : (due status : Status) (before after : ℕ) (old new : Option (List ℕ))
    (text : List ℕ) → WritesOrFails due status before after old new text → IsAnswered due
    → (Rose before after → ⊥) → IsAnswered status
told_answered due status before after old new text told answered kept = elim told [
  | inl whole ↦ subst IsAnswered (sym whole.0) answered
  | inr part ↦ absurd (kept part.1)
]

-- a result that is no error is `Ok`
pub sure_ok : {T E : Type 0} (result : Result T E) (P : T → Type 0)
    → MatchResult result P (λ _. ⊥) → IsOk result
sure_ok (Ok value) P sure = refl
sure_ok (Err error) P sure = absurd sure

-- a run ends as was due, or a write failed
pub told_ends : (due status : Status) (before after : ℕ) (old new : Option (List ℕ)) (text : List ℕ)
    → WritesOrFails due status before after old new text → EndsAs due status
told_ends due status before after old new text told = elim told [
  | inl whole ↦ inl whole.0
  | inr part ↦ inr (inl part.0)
]

-- words that are no command are answered `usage`
pub unread_usage : (words : List (List ℕ)) (due : Status) → IsUsage words → IsUnread words due
    → due ≡ Usage
unread_usage words due none unread = elim unread [
  | inl usage ↦ usage.1
  | inr command ↦ absurd (none command.0 command.1)
]

-- and those of a command that reads nothing as it is
pub unread_command : (words : List (List ℕ)) (due : Status) (command : Command)
    → IsCommand words command → IsUnread words due → (reads_source command ≡ false) × (due ≡ Done)
unread_command words due command is unread = elim unread [
  | inl usage ↦ absurd (usage.0 command is)
  | inr found ↦ (
    subst (λ (command : Command). reads_source command ≡ false)
        (one_command words found.0 command found.1 is) found.2,
    found.3,
  )
]

-- a command is answered on what the source tells, or on nothing
pub offered : (words : List (List ℕ)) (command : Command) (left : Option (List ℕ))
    (bytes : List ℕ) → IsCommand words command → Concerns words left bytes
    → Offers command left bytes
offered words command left bytes is concerns = elim concerns [
  | inl told ↦ inr told
  | inr unread ↦ inl (unread_command words unread.0 command is unread.1).0
]

-- a run that answers `usage` was due to
pub told_usage : (due status : Status) (before after : ℕ) (old new : Option (List ℕ)) (text : List ℕ)
    → WritesOrFails due status before after old new text → status ≡ Usage → due ≡ Usage
told_usage due status before after old new text told ends = elim told [
  | inl whole ↦ cc
  | inr part ↦ absurd (let other : WriteFault ≡ Usage = cc in cc)
]

-- a command that came to its answer is answered
pub worked_answered : (status : Status) → IsWorked status → IsAnswered status
worked_answered Done worked = tt
worked_answered No worked = tt
worked_answered Refused worked = tt
worked_answered Limit worked = tt
worked_answered Usage worked = tt
worked_answered ReadFault worked = absurd worked
worked_answered WriteFault worked = absurd worked
worked_answered NoMemory worked = absurd worked
