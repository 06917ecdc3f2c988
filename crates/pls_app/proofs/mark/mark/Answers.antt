use Rattle.std.proofs.Common.{◌≡◌, ◌∙◌, List, inl, inr, ap, arith, subst, sym}
use Rattle.std.proofs.lemmas.Result.{IfOk-weaker}
use Rattle.pls_streams.specs.declared.text_error.Quantity.TheVariants.{Labels}
use Rattle.pls_configuration.specs.declared.limits.TheConstants.{MAX_BITS}
use Rattle.pls_configuration.specs.declared.row.NodeRow.{NodeRow}
use Rattle.pls_inputs.specs.Order.{over}
use Rattle.pls_inputs.specs.Parts.{Input, rows_in}
use Rattle.pls_combine.specs.Expression.{longest_of}
use Rattle.pls_components.specs.Parts.{room_of_parts}
use Rattle.pls_app.specs.declared.command.Command.TheVariants.{With}
use Rattle.pls_app.specs.declared.command.Task.TheVariants.{Mark}
use Rattle.pls_app.specs.Answer.{Marks, refusal_answer}
use Rattle.pls_app.specs.Meant.{room_in}
use Rattle.pls_app.specs.inner.Tasks.{Does}
use Rattle.pls_app.proofs.Sizes.{over_room}
use Rattle.pls_app.proofs.mark.mark.Goals as goal

pub returns-in-Ok-clause-does : goal.returns-in-Ok-clause-does
returns-in-Ok-clause-does g c =
    let scheme = c.args.scheme.now in
    let code = c.args.code in
    let net = c.args.net in
    let parts = c.args.parts.now in
    let writes = c.requires.named.writes_so in
    IfOk-weaker c.mark_within.result (λ answer. Marks code scheme net parts answer)
    (λ answer. (input : Input) → rows_in input ≡ net
    → Does (With (Mark code) scheme) input parts answer)
    (λ answer marks input same. inr (
      ap (λ (rows : List NodeRow). over Labels MAX_BITS (room_in code scheme rows parts)) same
          ∙ (λ i. over Labels MAX_BITS (room_of_parts (longest_of (sym writes i) scheme) net parts))
          ∙ over_room Labels MAX_BITS _ c.room_parts-room.result (omega arith)
          c.room_parts-room.ensures
          ∙ c.in-Ok.ensures.within,
      subst (λ (rows : List NodeRow). Marks code scheme rows parts answer) (sym same) marks,
    )) c.mark_within.ensures.marks

pub returns-in-Err-clause-does : goal.returns-in-Err-clause-does
returns-in-Err-clause-does g c =
    let scheme = c.args.scheme.now in
    let code = c.args.code in
    let net = c.args.net in
    let parts = c.args.parts.now in
    let writes = c.requires.named.writes_so in
    IfOk-weaker c.refuse.result (λ answer. answer ≡ refusal_answer c.in-Err.error)
    (λ answer. (input : Input) → rows_in input ≡ net
    → Does (With (Mark code) scheme) input parts answer)
    (λ answer says input same. inl (
      c.in-Err.error,
      ap (λ (rows : List NodeRow). over Labels MAX_BITS (room_in code scheme rows parts)) same
          ∙ (λ i. over Labels MAX_BITS (room_of_parts (longest_of (sym writes i) scheme) net parts))
          ∙ over_room Labels MAX_BITS _ c.room_parts-room.result (omega arith)
          c.room_parts-room.ensures
          ∙ c.in-Err.ensures.refused,
      says,
    )) c.refuse.ensures.says
