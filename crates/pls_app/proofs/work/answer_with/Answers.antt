use Rattle.std.proofs.Common.{◌≡◌, ◌∙◌, ap, subst, sym}
use Rattle.std.proofs.lemmas.Result.{IfOk-weaker}
use Rattle.pls_configuration.specs.declared.status.Status.TheVariants.{Done}
use Rattle.pls_bits.specs.declared.code_name.CodeName.{CodeName}
use Rattle.pls_inputs.specs.declared.parts.Parts.{Parts}
use Rattle.pls_inputs.specs.Order.{IsInput, IsNoInput}
use Rattle.pls_inputs.specs.Parts.{rows_in}
use Rattle.pls_inputs.specs.Read.{IsRead, said}
use Rattle.pls_app.specs.declared.command.Command.TheVariants.{With}
use Rattle.pls_app.specs.declared.command.Task.TheVariants.{Mark, Recheck}
use Rattle.pls_app.specs.Answer.{Answers, IsInputTo, refusal_answer}
use Rattle.pls_app.specs.Run.{Certifies}
use Rattle.pls_app.specs.inner.Tasks.{DoesWork, RecheckedIn, RecheckedOnBytes, ShowsIn}
use Rattle.pls_app.specs.Said.{Answer}
use Rattle.pls_app.proofs.Answered.{answered_by_refusal, does_answer}
use Rattle.pls_app.proofs.Asked.{refused_asks, task_asks}
use Rattle.pls_app.proofs.Certified.{certified_mark}
use Rattle.pls_app.proofs.Consumed.{both_ok}
use Rattle.pls_app.proofs.Proved.{refused_not_done}
use Rattle.pls_app.proofs.work.answer_with.Goals as goal

pub work-requires-clause-input : goal.work-requires-clause-input
work-requires-clause-input g c = (
  c.args.bytes.items,
  subst (λ (parts : Parts). IsRead parts c.args.bytes.items c.in-Ok.input)
      (c.parts.ensures.parts c.args.scheme) c.in-Ok.ensures.input,
)

pub returns-in-Ok-clause-answer : goal.returns-in-Ok-clause-answer
returns-in-Ok-clause-answer g c =
    let command = With c.args.task c.args.scheme in
    let input = said c.in-Ok.input in
    let is : IsInputTo (With c.args.task c.args.scheme) c.args.bytes.items input =
    subst (λ (parts : Parts). IsInput parts c.args.bytes.items input)
    (c.parts.ensures.parts c.args.scheme) c.in-Ok.ensures.input.is in
    IfOk-weaker c.work.result (λ answer. DoesWork command input answer)
    (λ answer. Answers command c.args.bytes.items answer)
    (λ answer does. does_answer command c.args.bytes.items input answer is does)
    c.work.ensures.does

pub returns-in-Ok-clause-certified : goal.returns-in-Ok-clause-certified
returns-in-Ok-clause-certified g c =
    let scheme = c.args.scheme in
    let task = c.args.task in
    let input = said c.in-Ok.input in
    let is : IsInputTo (With c.args.task c.args.scheme) c.args.bytes.items input =
    subst (λ (parts : Parts). IsInput parts c.args.bytes.items input)
    (c.parts.ensures.parts c.args.scheme) c.in-Ok.ensures.input.is in
    IfOk-weaker c.work.result
    (λ answer. DoesWork (With task scheme) input answer
    × ((code : CodeName) → task ≡ Mark code → answer.status ≡ Done
    → ShowsIn code scheme (rows_in input) answer.text))
    (λ answer. (code : CodeName) → task ≡ Mark code → answer.status ≡ Done
    → Certifies code scheme c.args.bytes.items answer.text)
    (λ answer both code same done. certified_mark task code scheme c.args.bytes.items input answer same
    is both.0 (both.1 code same done) done)
    (both_ok c.work.result (λ answer. DoesWork (With task scheme) input answer)
    (λ answer. (code : CodeName) → task ≡ Mark code → answer.status ≡ Done
    → ShowsIn code scheme (rows_in input) answer.text)
    c.work.ensures.does c.work.ensures.shows)

pub returns-in-Ok-clause-rechecked : goal.returns-in-Ok-clause-rechecked
returns-in-Ok-clause-rechecked g c =
    let scheme = c.args.scheme in
    let task = c.args.task in
    let input = said c.in-Ok.input in
    let is : IsInputTo (With c.args.task c.args.scheme) c.args.bytes.items input =
    subst (λ (parts : Parts). IsInput parts c.args.bytes.items input)
    (c.parts.ensures.parts c.args.scheme) c.in-Ok.ensures.input.is in
    let old = g.B.Bench.asked c.args.bench.now in
    let new = g.B.Bench.asked c.work.new.bench in
    IfOk-weaker c.work.result
    (λ answer. task ≡ Recheck → RecheckedIn scheme input answer.status old new)
    (λ answer. RecheckedOnBytes (With task scheme) c.args.bytes.items answer.status old new)
    (λ answer found. task_asks task scheme c.args.bytes.items input answer.status old new
    is found) c.work.ensures.rechecked

pub returns-in-Err-clause-answer : goal.returns-in-Err-clause-answer
returns-in-Err-clause-answer g c =
    answered_by_refusal (With c.args.task c.args.scheme) c.args.bytes.items c.in-Err.error c.refuse.result
    (λ some. subst (λ (parts : Parts). IsNoInput parts c.args.bytes.items c.in-Err.error)
    (c.parts.ensures.parts c.args.scheme) (c.in-Err.ensures.refused some))
    c.refuse.ensures.says c.refuse.ensures.refused

pub returns-in-Err-clause-certified : goal.returns-in-Err-clause-certified
returns-in-Err-clause-certified g c =
    IfOk-weaker c.refuse.result (λ answer. answer ≡ refusal_answer c.in-Err.error)
    (λ answer. (code : CodeName) → c.args.task ≡ Mark code → answer.status ≡ Done
    → Certifies code c.args.scheme c.args.bytes.items answer.text)
    (λ answer same code task done. absurd (refused_not_done c.in-Err.error
    (sym (ap (λ (answer : Answer). answer.status) same) ∙ done))) c.refuse.ensures.says

pub returns-in-Err-clause-rechecked : goal.returns-in-Err-clause-rechecked
returns-in-Err-clause-rechecked g c =
    let asked = g.B.Bench.asked c.args.bench.now in
    IfOk-weaker c.refuse.result (λ answer. answer ≡ refusal_answer c.in-Err.error)
    (λ answer. RecheckedOnBytes (With c.args.task c.args.scheme) c.args.bytes.items answer.status asked asked)
    (λ answer same. refused_asks (With c.args.task c.args.scheme) c.args.bytes.items c.in-Err.error
    answer asked asked same) c.refuse.ensures.says
