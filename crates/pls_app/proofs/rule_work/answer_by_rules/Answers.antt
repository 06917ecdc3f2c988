use Rattle.std.proofs.Common.{subst}
use Rattle.std.proofs.lemmas.Result.{IfOk-weaker}
use Rattle.pls_inputs.specs.declared.parts.Parts.{Parts}
use Rattle.pls_inputs.specs.Order.{IsInput, IsNoInput}
use Rattle.pls_inputs.specs.Read.{IsRead, said}
use Rattle.pls_app.specs.declared.command.Command.TheVariants.{ByRules}
use Rattle.pls_app.specs.Answer.{Answers, IsInputTo}
use Rattle.pls_app.specs.inner.Tasks.{DoesWork}
use Rattle.pls_app.proofs.Answered.{answered_by_refusal, does_answer}
use Rattle.pls_app.proofs.rule_work.answer_by_rules.Goals as goal

pub do_rule_task-requires : goal.do_rule_task-requires
do_rule_task-requires c = (
  c.args.bytes.items,
  subst (λ (parts : Parts). IsRead parts c.args.bytes.items c.in-Ok.input) c.parts.ensures.parts
      c.in-Ok.ensures.input,
)

pub returns-in-Ok-clause-answer : goal.returns-in-Ok-clause-answer
returns-in-Ok-clause-answer c =
    let command = ByRules c.args.task in
    let input = said c.in-Ok.input in
    let is : IsInputTo command c.args.bytes.items input =
    subst (λ (parts : Parts). IsInput parts c.args.bytes.items input) c.parts.ensures.parts
    c.in-Ok.ensures.input.is in
    IfOk-weaker c.do_rule_task.result (λ answer. DoesWork command input answer)
    (λ answer. Answers command c.args.bytes.items answer)
    (λ answer does. does_answer command c.args.bytes.items input answer is does)
    c.do_rule_task.ensures.does

pub returns-in-Err-clause-answer : goal.returns-in-Err-clause-answer
returns-in-Err-clause-answer c =
    answered_by_refusal (ByRules c.args.task) c.args.bytes.items c.in-Err.error c.refuse.result
    (λ some. subst (λ (parts : Parts). IsNoInput parts c.args.bytes.items c.in-Err.error)
    c.parts.ensures.parts (c.in-Err.ensures.refused some)) c.refuse.ensures.says
    c.refuse.ensures.refused
