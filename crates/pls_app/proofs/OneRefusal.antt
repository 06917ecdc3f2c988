-- A command refuses bytes in one way, or takes the input that they are.
use Rattle.std.proofs.Common.{◌≡◌, ◌∙◌, ℕ, Bool, true, false, List, [], Some, None, inl, inr, ap, subst, refl, sym}
use Rattle.pls_streams.specs.declared.text_error.TextError.{TextError}
use Rattle.pls_configuration.specs.declared.row.NodeRow.{NodeRow}
use Rattle.pls_expressions.specs.Expression.{Expression}
use Rattle.pls_components.specs.Components.{AreComponents}
use Rattle.pls_components.proofs.Apart.{one_list}
use Rattle.pls_components.proofs.Empty.{no_parts}
use Rattle.pls_inputs.specs.Parts.{Input, rows_in}
use Rattle.pls_inputs.proofs.Facts.{readable}
use Rattle.pls_inputs.proofs.OneInput.{no_refusal, one_input, one_refusal as one_no_input}
use Rattle.pls_app.specs.declared.command.Command.{Command}
use Rattle.pls_app.specs.declared.command.Command.TheVariants.{With}
use Rattle.pls_app.specs.declared.command.Task.{Task}
use Rattle.pls_app.specs.declared.command.Task.TheVariants.{Mark, Verify, Simulate, Recheck, Watch, Bound, Convert, Splice}
use Rattle.pls_app.specs.Command.{input_parts_of, read_by}
use Rattle.pls_app.specs.Answer.{IsInputTo, IsRefused, RefusesInput, TakesInput, work_refusal}
use Rattle.pls_app.proofs.Values.{no_rows}

-- a task with a scheme reads a network
pub wants_network : (task : Task) (scheme : Expression)
    → (input_parts_of (With task scheme)).network ≡ true
wants_network (Mark code) scheme = refl
wants_network (Verify form) scheme = refl
wants_network (Simulate form) scheme = refl
wants_network Recheck scheme = refl
wants_network (Bound code) scheme = refl
wants_network Watch scheme = refl
wants_network Convert scheme = refl
wants_network Splice scheme = refl

-- the components of an input are one list; where no network is read, there are none
pub one_parts : (command : Command) (bytes : List ℕ) (input : Input) (parts others : List (List ℕ))
    → IsInputTo command bytes input → AreComponents (rows_in input) parts
    → AreComponents (rows_in input) others → parts ≡ others
one_parts command bytes input parts others is are too = by (input_parts_of command).network refl
  where
    by : (wanted : Bool) → (input_parts_of command).network ≡ wanted → parts ≡ others
    by true wanted =
        one_list (rows_in input)
        (readable (input_parts_of command) (read_by command bytes) input is wanted).network parts others
        are too
    by false unwanted =
        let empty : rows_in input ≡ [] =
        no_rows (input_parts_of command) (read_by command bytes) input is unwanted in
        no_parts parts (subst (λ (rows : List NodeRow). AreComponents rows parts) empty are)
        ∙ sym (no_parts others (subst (λ (rows : List NodeRow). AreComponents rows others) empty too))

-- a command refuses an input in one way
one_asked : (command : Command) (bytes : List ℕ) (input : Input) (error other : TextError)
    → IsInputTo command bytes input → RefusesInput command input error
    → RefusesInput command input other → error ≡ other
one_asked command bytes input error other is one two =
    let parts : one.parts ≡ two.parts =
    one_parts command bytes input one.parts two.parts is one.components two.components in
    let same : Some error ≡ Some other =
    sym one.refused ∙ ap (work_refusal command input) parts ∙ two.refused in
    cc

-- an input that it takes it does not refuse
taken : (command : Command) (bytes : List ℕ) (input : Input) (parts : List (List ℕ))
    (error : TextError) → IsInputTo command bytes input → TakesInput command input parts
    → RefusesInput command input error → ⊥
taken command bytes input parts error is takes refuses =
    let same : parts ≡ refuses.parts =
    one_parts command bytes input parts refuses.parts is takes.components refuses.components in
    let some : None ≡ Some error =
    sym takes.accepted ∙ ap (work_refusal command input) same ∙ refuses.refused in
    cc

-- bytes are refused in one way
pub one_refusal : (command : Command) (bytes : List ℕ) (error other : TextError)
    → IsRefused command bytes error → IsRefused command bytes other → error ≡ other
one_refusal command bytes error other one two = elim one [
  | inl none ↦ elim two [
    | inl too ↦
        one_no_input (input_parts_of command) (read_by command bytes) error other none too
    | inr asks ↦
        absurd (no_refusal (input_parts_of command) (read_by command bytes) asks.0 error asks.1 none)
  ]
  | inr asks ↦ elim two [
    | inl none ↦
        absurd (no_refusal (input_parts_of command) (read_by command bytes) asks.0 other asks.1 none)
    | inr too ↦
        let same = one_input (input_parts_of command) (read_by command bytes) too.0 asks.0 too.1 asks.1 in
        one_asked command bytes asks.0 error other asks.1 asks.2
        (subst (λ (input : Input). RefusesInput command input other) same too.2)
  ]
]

-- bytes that are refused are no input that the command takes
pub refused_untaken : (command : Command) (bytes : List ℕ) (error : TextError) (input : Input)
    (parts : List (List ℕ)) → IsRefused command bytes error → IsInputTo command bytes input
    → TakesInput command input parts → ⊥
refused_untaken command bytes error input parts refused is takes = elim refused [
  | inl none ↦ no_refusal (input_parts_of command) (read_by command bytes) input error is none
  | inr asks ↦
      let same = one_input (input_parts_of command) (read_by command bytes) asks.0 input asks.1 is in
      taken command bytes input parts error is takes
      (subst (λ (input : Input). RefusesInput command input error) same asks.2)
]
