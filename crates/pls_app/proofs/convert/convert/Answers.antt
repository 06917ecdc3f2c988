use Rattle.std.proofs.Common.{◌≡◌, ◌∙◌, ℕ, List, Option, Some, None, IfOk, inl, inr, refl, sym}
use Rattle.std.proofs.lemmas.Result.{IfOk-weaker}
use Rattle.pls_streams.specs.declared.refusal_number.TheConstants.{UNREADABLE}
use Rattle.pls_streams.specs.declared.text_error.TextError.{TextError}
use Rattle.pls_streams.specs.declared.text_error.TextError.TheVariants.{Sense}
use Rattle.pls_streams.specs.declared.text_error.Quantity.TheVariants.{Bits}
use Rattle.pls_bits.specs.Delta.{delta_code}
use Rattle.pls_bits.specs.declared.code_name.CodeName.TheVariants.{Delta}
use Rattle.pls_configuration.specs.declared.limits.TheConstants.{MAX_BITS}
use Rattle.pls_labels.specs.Labels.{bits_together}
use Rattle.pls_combine.specs.Converted.{converted}
use Rattle.pls_inputs.specs.Order.{over}
use Rattle.pls_inputs.specs.Parts.{Input, code_in, labels_in, rows_in}
use Rattle.pls_app.specs.declared.command.Command.TheVariants.{With}
use Rattle.pls_app.specs.declared.command.Task.TheVariants.{Convert}
use Rattle.pls_app.specs.Answer.{labels_answer, refusal_answer}
use Rattle.pls_app.specs.Meant.{takes_of}
use Rattle.pls_app.specs.Said.{Answer}
use Rattle.pls_app.specs.inner.Tasks.{Does}
use Rattle.pls_app.proofs.Converts.{bits_decide, converted_same, unread_refused}
use Rattle.pls_app.proofs.convert.convert.Goals as goal

pub returns-in-Some-clause-does : goal.returns-in-Some-clause-does
returns-in-Some-clause-does g c =
    let scheme = c.args.scheme.now in
    let net = c.args.net in
    let labels = c.args.labels.now in
    let id : ℕ = c.node.result.0 in
    IfOk-weaker c.refuse_at.result (λ answer. answer ≡ refusal_answer (Sense UNREADABLE id))
    (λ answer. (input : Input) → rows_in input ≡ net → labels_in input ≡ labels
    → g.C.NumCode.takes ≡ takes_of (code_in input) → (parts : List (List ℕ))
    → Does (With Convert scheme) input parts answer)
    (λ answer says input rows same takes parts. inl (
      Sense UNREADABLE id,
      unread_refused scheme input _ (λ i. converted (takes i) delta_code scheme) labels same net
          c.in-Some.place id rows (sym c.in-Some.is ∙ c.in_ok-place.ensures.place)
          c.node.ensures.id,
      says,
    )) c.refuse_at.ensures.says

pub returns-in-None-clause-does : goal.returns-in-None-clause-does
returns-in-None-clause-does g c =
    by (over Bits MAX_BITS (bits_together c.convert_labels.new.into)) refl
  where
    Does_so : Answer → Type 0
    Does_so answer = (input : Input) → rows_in input ≡ c.args.net
        → labels_in input ≡ c.args.labels.now
        → g.C.NumCode.takes ≡ takes_of (code_in input)
        → (parts : List (List ℕ)) → Does (With Convert c.args.scheme.now) input parts answer

    by : (found : Option TextError)
        → over Bits MAX_BITS (bits_together c.convert_labels.new.into) ≡ found
        → IfOk c.labels_within.result Does_so
    by None limit =
        let scheme = c.args.scheme.now in
        let store = c.convert_labels.new.into in
        let none = sym c.in-None.is ∙ c.in_ok-place.ensures.place in
        let made = c.in_ok-place.ensures.all c.in-None.is in
        IfOk-weaker c.labels_within.result (λ answer. answer ≡ labels_answer Delta c.args.net store)
        Does_so
        (λ answer is input rows same takes parts. inr (
          bits_decide scheme input _ (λ i. converted (takes i) delta_code scheme)
              c.args.labels.now same store none made None limit,
          is ∙ (λ i. labels_answer Delta (sym rows i)
              (sym (converted_same scheme input _ (λ i. converted (takes i) delta_code scheme)
              c.args.labels.now same store none made) i)),
        )) (c.labels_within.ensures.within limit)
    by (Some error) limit =
        let scheme = c.args.scheme.now in
        let store = c.convert_labels.new.into in
        let none = sym c.in-None.is ∙ c.in_ok-place.ensures.place in
        let made = c.in_ok-place.ensures.all c.in-None.is in
        IfOk-weaker c.labels_within.result (λ answer. answer ≡ refusal_answer error) Does_so
        (λ answer says input rows same takes parts. inl (
          error,
          bits_decide scheme input _ (λ i. converted (takes i) delta_code scheme)
              c.args.labels.now same store none made (Some error) limit,
          says,
        )) (c.labels_within.ensures.refused error limit)
