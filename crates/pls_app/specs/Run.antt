-- What the public call says of its source and its sink, and of the network.
use Rattle.std.specs.Prelude.{◌≡◌, ℕ, ◌+◌, ◌≤◌, ◌<◌, List, [], length, drop, ◌++◌, Bool, true, false, Contains, Option, Some, None, ⊤, ◌⊎◌}
use Rattle.std.specs.Io.KnownBytes.{Appends}
use Rattle.pls_streams.specs.declared.text_error.TextError.{TextError}
use Rattle.pls_streams.specs.Streams.{AppendsPart, LosesAtMost, Rose}
use Rattle.pls_streams.specs.Steps.{up_by}
use Rattle.pls_configuration.specs.declared.status.Status.{Status}
use Rattle.pls_configuration.specs.declared.status.Status.TheVariants.{Done, No, Usage, Refused, ReadFault, WriteFault, NoMemory, Limit}
use Rattle.pls_sim.specs.declared.outcome.Outcome.{Outcome}
use Rattle.pls_report.specs.Report.{is_accepting}
use Rattle.pls_configuration.specs.declared.row.NodeRow.{NodeRow}
use Rattle.pls_facts.specs.Leader.{HasOneLeader}
use Rattle.pls_labels.specs.Seen.{views}
use Rattle.pls_scheme.specs.Judging.{AllAccept}
use Rattle.pls_components.specs.Components.{AreComponents, items_at}
use Rattle.pls_splice.specs.Ring.{IsRing}
use Rattle.pls_splice.specs.TwoRings.{AreTwoRings, IsLeaderlessIn}
use Rattle.pls_expressions.specs.Expression.{Expression, Of}
use Rattle.pls_configuration.specs.declared.limits.TheConstants.{MAX_INPUT}
use Rattle.pls_inputs.specs.Parts.{Input, code_in, parts_with_edits, parts_with_gamma, parts_with_labels, parts_with_rules, labels_in, net_labels_text, rows_in, with_labels}
use Rattle.pls_inputs.specs.Order.{IsInput}
use Rattle.pls_bits.specs.declared.code_name.CodeName.{CodeName}
use Rattle.pls_bits.specs.declared.code_name.CodeName.TheVariants.{Delta}
use Rattle.pls_netfile.specs.NetworkText.{network_text}
use Rattle.pls_names.specs.declared.scheme_name.SchemeName.{SchemeName}
use Rattle.pls_builtin.specs.Builtin.{set_of_name}
use Rattle.pls_app.specs.declared.command.Command.{Command}
use Rattle.pls_app.specs.declared.command.Command.TheVariants.{With}
use Rattle.pls_app.specs.declared.command.ReportForm.TheVariants.{Lines}
use Rattle.pls_app.specs.declared.command.Task.TheVariants.{Recheck, Verify}
use Rattle.pls_app.specs.Command.{IsCommand, IsUsage, reads_source}
use Rattle.pls_app.specs.Meant.{Holds, LacksAt, NameLacking, Shows, judge_in}
use Rattle.pls_app.specs.Reports.{Report, ReportInput, checked_in, edited_by}
use Rattle.pls_app.specs.Ruled.{set_in}
use Rattle.pls_app.specs.Said.{Answer}
use Rattle.pls_app.specs.Spelled.{BeginsWithNetwork, EndsWithEdits, IsNetworkText}
use Rattle.pls_edits.specs.declared.edit_line.EditLine.{EditLine}
use Rattle.pls_configuration.specs.declared.limits.TheConstants.{MAX_BITS}
use Rattle.pls_labels.specs.Labels.{bits_together}
use Rattle.pls_app.specs.Answer.{IsAnswer, IsInputTo, IsRefused, no_answer, outcomes_in, refusal_answer, refusal_status}

-- the words are this command, and the source tells these bytes
pub record Asks (words : List (List ℕ)) (left : Option (List ℕ)) (command : Command)
    (bytes : List ℕ) : Type 0 where
  pub asked : IsCommand words command
  pub told : left ≡ Some bytes

-- the run came to its answer: no fault, and no want of memory
abbrev pub IsAnswered : Status → Type 0
IsAnswered ReadFault = ⊥
IsAnswered WriteFault = ⊥
IsAnswered NoMemory = ⊥
IsAnswered other = ⊤

-- the status is that of the answer to the words on these bytes, and the sink took exactly its text
pub record TellsAnswer (words : List (List ℕ)) (bytes : List ℕ) (status : Status)
    (old new : Option (List ℕ)) : Type 0 where
  pub answer : Answer
  pub is : IsAnswer words bytes answer
  pub ends : status ≡ answer.status
  pub took : Appends old new answer.text

-- the sink took a front of the text of the answer to the words on these bytes, but not all of it
pub record TellsPart (words : List (List ℕ)) (bytes : List ℕ)
    (old new : Option (List ℕ)) : Type 0 where
  pub answer : Answer
  pub is : IsAnswer words bytes answer
  pub took : AppendsPart old new answer.text

-- what a run without an answer comes from: a call on the source failed, so that its count rose, or
-- a call on the sink. Want of memory has no cause that is told
abbrev pub HasItsCause : Status → ℕ → ℕ → ℕ → ℕ → Type 0
HasItsCause ReadFault old_reads new_reads old_writes new_writes = Rose old_reads new_reads
HasItsCause WriteFault old_reads new_reads old_writes new_writes = Rose old_writes new_writes
HasItsCause other old_reads new_reads old_writes new_writes = ⊤

-- a source that tells its bytes was read to its end, or by one byte more than the limit
abbrev pub HasRead : Option (List ℕ) → Option (List ℕ) → Type 0
HasRead None new = ⊤
HasRead (Some bytes) new =
    (length bytes ≤ MAX_INPUT → new ≡ Some [])
    × (MAX_INPUT < length bytes → new ≡ Some (drop (MAX_INPUT + 1) bytes))

-- the words are answered with this status, and nothing is read: they are no command, or one that
-- reads nothing
abbrev pub IsUnread : List (List ℕ) → Status → Type 0
IsUnread words due = (IsUsage words × (due ≡ Usage))
    ⊎ ((command : Command) × IsCommand words command × (reads_source command ≡ false) × (due ≡ Done))

-- the answer is one to these bytes: the source tells them, or the words read nothing, whatever the
-- source tells
abbrev pub Concerns : List (List ℕ) → Option (List ℕ) → List ℕ → Type 0
Concerns words left bytes = (left ≡ Some bytes) ⊎ ((due : Status) × IsUnread words due)

-- where the source tells these bytes, or the words read nothing, the sink is sure of as many bytes
-- as the text of the answer has
abbrev pub IsSureOfAnswer : List (List ℕ) → Option (List ℕ) → (ℕ → Type 0) → Type 0
IsSureOfAnswer words left sure =
    (bytes : List ℕ) × Concerns words left bytes
    × ((answer : Answer) → IsAnswer words bytes answer → sure (length answer.text))

-- a run ends as was due, or a write failed, or there was no memory
abbrev pub EndsAs : Status → Status → Type 0
EndsAs due status = (status ≡ due) ⊎ ((status ≡ WriteFault) ⊎ (status ≡ NoMemory))

-- what a run takes from its source: one that answers a command has read it to its end, or by one
-- byte more than the limit, and none takes more
pub record Consumes (words : List (List ℕ)) (status : Status)
    (old new : Option (List ℕ)) : Type 0 where
  pub read : (command : Command) → IsCommand words command → reads_source command ≡ true
      → IsAnswered status → HasRead old new
  pub no_more : LosesAtMost old new (MAX_INPUT + 1)

-- the status is that of the refusal, and the sink took exactly the line that says it
pub record TellsRefusal (error : TextError) (status : Status)
    (old new : Option (List ℕ)) : Type 0 where
  pub ends : status ≡ refusal_status error
  pub took : Appends old new (refusal_answer error).text

-- the status is one of a refusal
abbrev pub IsRefusalStatus : Status → Type 0
IsRefusalStatus status = (status ≡ Refused) ⊎ (status ≡ Limit)

-- a refusal is told exactly where the bytes are refused
pub record RefusesExactly (command : Command) (bytes : List ℕ) (status : Status)
    (old new : Option (List ℕ)) : Type 0 where
  pub told : (error : TextError) → IsRefused command bytes error
      → TellsRefusal error status old new
  pub caused : IsRefusalStatus status → (error : TextError) × IsRefused command bytes error

-- the bytes begin with the text of a network, each component of which has the property
pub record Proves (scheme : Expression) (bytes : List ℕ) : Type 0 where
  pub rows : List NodeRow
  pub is : BeginsWithNetwork bytes rows
  pub holds : Holds scheme rows

-- one of these nodes rejects what it sees, or still waits
abbrev pub SomeFails : List (ℕ × Outcome) → Type 0
SomeFails outcomes =
    (node : ℕ × Outcome) × Contains outcomes node × (is_accepting node.1 ≡ false)

-- the command reads an input from the bytes, and some node rejects what it sees, or still waits
pub record SomeRejects (command : Command) (bytes : List ℕ) : Type 0 where
  pub input : Input
  pub is : IsInputTo command bytes input
  pub fails : SomeFails (outcomes_in command input)

-- the command reads an input from the bytes, and of each component that lacks the property the
-- report has a node that rejects what it sees, or still waits
pub record Notices (scheme : Expression) (command : Command) (bytes : List ℕ) : Type 0 where
  pub input : Input
  pub is : IsInputTo command bytes input
  pub notices : (places : List ℕ) → LacksAt scheme (rows_in input) places
      → SomeFails (items_at (outcomes_in command input) places)

-- the bytes are the text of a network with these components, and the text is that of labels which
-- show the property of each of them under the code; together they have no more bits than the labels
-- of an input may have. That `verify` ends with `Done` on the bytes with the text behind them is
-- the law `marked_is_verified`
pub record Certifies (code : CodeName) (scheme : Expression)
    (bytes text : List ℕ) : Type 0 where
  pub rows : List NodeRow
  pub labels : List (List Bool)
  pub is : IsNetworkText bytes rows
  pub parts : List (List ℕ)
  pub components : AreComponents rows parts
  pub shows : Shows code scheme rows labels
  pub few : bits_together labels ≤ MAX_BITS
  pub text_is : text ≡ net_labels_text code rows labels

-- the text is that of labels in the delta code, and the network of the bytes followed by the text
-- is the same network with these labels, of which `verify` has the same outcomes as of those of the
-- bytes
pub record Converts (scheme : Expression) (bytes text : List ℕ) : Type 0 where
  pub input : Input
  pub labels : List (List Bool)
  pub is : IsInput parts_with_gamma bytes input
  pub text_is : text ≡ net_labels_text Delta (rows_in input) labels
  pub read_back : IsInput parts_with_labels (network_text (rows_in input) ++ text)
      (with_labels Delta input labels)
  pub alike : outcomes_in (With (Verify Lines) scheme) (with_labels Delta input labels)
      ≡ outcomes_in (With (Verify Lines) scheme) input

-- the bytes are a ring with labels, and the text is a network of two rings with the same labels, in
-- which no node sees a difference: all nodes accept, so that each of the two has the property, and
-- where one node of the ring was marked as a leader, one of the two has none
pub record Splits (scheme : Expression) (bytes text : List ℕ) : Type 0 where
  pub input : Input
  pub is : IsInput parts_with_labels bytes input
  pub ring : IsRing (rows_in input)
  pub crossed : List NodeRow
  pub read_back : IsInput parts_with_labels text (record input { network = Some crossed })
  pub unseen : views crossed (labels_in input) ≡ views (rows_in input) (labels_in input)
  pub accepted : AllAccept (judge_in (code_in input) scheme) crossed (labels_in input)
  pub holds : Holds scheme crossed
  pub rings : (one other : ℕ) × AreTwoRings crossed one other
  pub leaderless : HasOneLeader (rows_in input) → IsLeaderlessIn crossed

-- the bytes are a network, labels and a rule set, and where the set is the one that has the name of
-- a scheme, each component of the network has the property of that scheme
pub record ProvesByRules (bytes : List ℕ) : Type 0 where
  pub input : Input
  pub is : IsInput parts_with_rules bytes input
  pub holds : (name : SchemeName) → set_of_name name ≡ Some (set_in input)
      → Holds (Of name) (rows_in input)

-- exactly these components of the network of the bytes lack the property, and the text is `no`,
-- which names them where there is more than one component
pub record Lacks (scheme : Expression) (bytes text : List ℕ) : Type 0 where
  pub rows : List NodeRow
  pub is : IsNetworkText bytes rows
  pub parts : List (List ℕ)
  pub components : AreComponents rows parts
  pub ids : List ℕ
  pub lacking : NameLacking scheme rows ids
  pub says : text ≡ (no_answer parts ids).text

-- the sink took a text of which this is so
pub record Took (Says : List ℕ → Type 0) (old new : Option (List ℕ)) : Type 0 where
  pub text : List ℕ
  pub took : Appends old new text
  pub says : Says text

-- the bytes begin with the text of a network and end with that of edits, of which there is one list
-- at most, as the heading `edits` stands once; after all edits each component has the property
pub record HoldsAfter (scheme : Expression) (bytes : List ℕ) : Type 0 where
  pub rows : List NodeRow
  pub edits : List EditLine
  pub is : BeginsWithNetwork bytes rows
  pub ends : EndsWithEdits bytes edits
  pub holds : Holds scheme (edited_by edits rows)

-- the count rose by as many nodes as the reports of the rounds say were checked
pub record RoseByChecked (scheme : Expression) (bytes : List ℕ) (old new : ℕ) : Type 0 where
  pub input : Input
  pub is : IsInput parts_with_edits bytes input
  pub reports : List Report
  pub are : ReportInput (judge_in (code_in input) scheme) input reports
  pub rose : new ≡ up_by (checked_in reports) old

-- the run ends with what it found of the network
abbrev pub IsJudged : Status → Type 0
IsJudged status = (status ≡ Done) ⊎ (status ≡ No)

-- how often the bench was asked: by `recheck`, where it ends with its reports, once for each node
-- that they say was checked, and by no other command
pub record CountsAsked (words : List (List ℕ)) (left : Option (List ℕ)) (status : Status)
    (old new : ℕ) : Type 0 where
  pub checked : (scheme : Expression) (bytes : List ℕ)
      → Asks words left (With Recheck scheme) bytes → IsJudged status
      → RoseByChecked scheme bytes old new
  pub others : ((scheme : Expression) → IsCommand words (With Recheck scheme) → ⊥) → new ≡ old
