use Rattle.std.proofs.Common.{◌≡◌, ◌∙◌, ℕ, List, Some, ap, subst, refl, sym, arith}
use Rattle.std.proofs.lemmas.Result.{IfOk-weaker}
use Rattle.pls_streams.specs.declared.text_error.TextError.TheVariants.{Limit}
use Rattle.pls_bits.specs.declared.code_name.CodeName.{CodeName}
use Rattle.pls_streams.specs.declared.text_error.Quantity.TheVariants.{Input}
use Rattle.pls_expressions.specs.Expression.{Expression}
use Rattle.pls_configuration.specs.declared.status.Status.TheVariants.{Done}
use Rattle.pls_app.specs.declared.command.Command.TheVariants.{With}
use Rattle.pls_app.specs.declared.command.Command.{Command}
use Rattle.pls_app.specs.declared.command.Task.TheVariants.{Mark}
use Rattle.pls_app.specs.Said.{Answer}
use Rattle.pls_app.specs.Answer.{Answers, refusal_answer}
use Rattle.pls_app.specs.Run.{Certifies}
use Rattle.pls_app.proofs.Answered.{refused_answer, too_long}
use Rattle.pls_app.specs.inner.Tasks.{RecheckedOnBytes}
use Rattle.pls_app.proofs.Asked.{refused_asks}
use Rattle.pls_app.proofs.Consumed.{lost_all_of, lost_past, ok_again, on_ok, read_all_of, read_them}
use Rattle.pls_app.proofs.Proved.{refused_not_done}
use Rattle.pls_app.proofs.from_source.answer_read.Goals as goal

pub returns-in-Ok-clause-read : goal.returns-in-Ok-clause-read
returns-in-Ok-clause-read g c =
    on_ok c.or_no_memory.result _ (read_all_of _ _ _ c.in-Ok.ensures.all c.in-Ok.ensures.end
    (omega (arith, c.in-Ok.ensures.within, c.in-Ok.bytes.ok.0)))

pub returns-in-Ok-clause-lost : goal.returns-in-Ok-clause-lost
returns-in-Ok-clause-lost g c =
    lost_all_of _ _ _ c.in-Ok.ensures.all c.in-Ok.ensures.end
    (omega (arith, c.in-Ok.ensures.within, c.in-Ok.bytes.ok.0))

pub returns-in-Err-TooLong-clause-answer : goal.returns-in-Err-TooLong-clause-answer
returns-in-Err-TooLong-clause-answer g c =
    let old = g.S.Source.left c.args.source.now in
    let new = g.S.Source.left c.read_all.new.source in
    let lost = c.in-Err-TooLong.ensures.too_long (rw c.in-Err-TooLong.field-0-is refl) in
    ok_again c.refuse.result c.or_no_memory-in-Err-TooLong.result _
    (λ answer. (bytes : List ℕ) → old ≡ Some bytes → Answers (c.args.command) bytes answer)
    (IfOk-weaker c.refuse.result (λ answer. answer ≡ refusal_answer (Limit Input))
    (λ answer. (bytes : List ℕ) → old ≡ Some bytes → Answers (c.args.command) bytes answer)
    (λ answer same bytes told. refused_answer (c.args.command) bytes (Limit Input) answer
    (too_long c.args.command c.requires.reads old new bytes lost told) same) c.refuse.ensures.says)
    c.or_no_memory-in-Err-TooLong.ensures

pub returns-in-Err-TooLong-clause-lost : goal.returns-in-Err-TooLong-clause-lost
returns-in-Err-TooLong-clause-lost g c =
    lost_past _ _ (c.in-Err-TooLong.ensures.too_long (rw c.in-Err-TooLong.field-0-is refl))

pub returns-in-Ok-clause-answer : goal.returns-in-Ok-clause-answer
returns-in-Ok-clause-answer g c =
    let command : Command = c.args.command in
    let old = g.S.Source.left c.args.source.now in
    let read = c.in-Ok.bytes.items in
    ok_again c.answer_to.result c.or_no_memory.result _
    (λ answer. (bytes : List ℕ) → old ≡ Some bytes → Answers command bytes answer)
    (IfOk-weaker c.answer_to.result (λ answer. Answers command read answer)
    (λ answer. (bytes : List ℕ) → old ≡ Some bytes → Answers command bytes answer)
    (λ answer is bytes told. subst (λ (bytes : List ℕ). Answers command bytes answer)
    (read_them old c.in-Ok.bytes.items bytes c.in-Ok.ensures.all told)
    is) c.answer_to.ensures.answer)
    c.or_no_memory.ensures

pub returns-in-Ok-clause-certified : goal.returns-in-Ok-clause-certified
returns-in-Ok-clause-certified g c =
    let command : Command = c.args.command in
    let old = g.S.Source.left c.args.source.now in
    let read = c.in-Ok.bytes.items in
    ok_again c.answer_to.result c.or_no_memory.result _
    (λ answer. (bytes : List ℕ) → old ≡ Some bytes → (code : CodeName)
    (scheme : Expression) → c.args.command ≡ With (Mark code) scheme → answer.status ≡ Done
    → Certifies code scheme bytes answer.text)
    (IfOk-weaker c.answer_to.result
    (λ answer. (code : CodeName) (scheme : Expression) → c.args.command ≡ With (Mark code) scheme
    → answer.status ≡ Done → Certifies code scheme read answer.text)
    (λ answer. (bytes : List ℕ) → old ≡ Some bytes → (code : CodeName)
    (scheme : Expression) → c.args.command ≡ With (Mark code) scheme → answer.status ≡ Done
    → Certifies code scheme bytes answer.text)
    (λ answer is bytes told code scheme mark done.
    subst (λ (bytes : List ℕ). Certifies code scheme bytes answer.text)
    (read_them old c.in-Ok.bytes.items bytes c.in-Ok.ensures.all told)
    (is code scheme mark done))
    c.answer_to.ensures.certified)
    c.or_no_memory.ensures

pub returns-in-Err-TooLong-clause-certified : goal.returns-in-Err-TooLong-clause-certified
returns-in-Err-TooLong-clause-certified g c =
    let command : Command = c.args.command in
    let old = g.S.Source.left c.args.source.now in
    ok_again c.refuse.result c.or_no_memory-in-Err-TooLong.result _
    (λ answer. (bytes : List ℕ) → old ≡ Some bytes → (code : CodeName)
    (scheme : Expression) → c.args.command ≡ With (Mark code) scheme → answer.status ≡ Done
    → Certifies code scheme bytes answer.text)
    (IfOk-weaker c.refuse.result (λ answer. answer ≡ refusal_answer (Limit Input))
    (λ answer. (bytes : List ℕ) → old ≡ Some bytes → (code : CodeName)
    (scheme : Expression) → c.args.command ≡ With (Mark code) scheme → answer.status ≡ Done
    → Certifies code scheme bytes answer.text)
    (λ answer same bytes told code scheme mark done.
    absurd (refused_not_done (Limit Input)
    (sym (ap (λ (answer : Answer). answer.status) same) ∙ done))) c.refuse.ensures.says)
    c.or_no_memory-in-Err-TooLong.ensures

pub returns-in-Ok-clause-rechecked : goal.returns-in-Ok-clause-rechecked
returns-in-Ok-clause-rechecked g c =
    let command : Command = c.args.command in
    let old = g.S.Source.left c.args.source.now in
    let read = c.in-Ok.bytes.items in
    let before = g.B.Bench.asked c.args.bench.now in
    let after = g.B.Bench.asked c.answer_to.new.bench in
    ok_again c.answer_to.result c.or_no_memory.result _
    (λ answer. (bytes : List ℕ) → old ≡ Some bytes
    → RecheckedOnBytes command bytes answer.status before after)
    (IfOk-weaker c.answer_to.result (λ answer. RecheckedOnBytes command read answer.status before after)
    (λ answer. (bytes : List ℕ) → old ≡ Some bytes
    → RecheckedOnBytes command bytes answer.status before after)
    (λ answer is bytes told.
    subst (λ (bytes : List ℕ). RecheckedOnBytes command bytes answer.status before after)
    (read_them old c.in-Ok.bytes.items bytes c.in-Ok.ensures.all told)
    is) c.answer_to.ensures.rechecked)
    c.or_no_memory.ensures

pub returns-in-Err-TooLong-clause-rechecked : goal.returns-in-Err-TooLong-clause-rechecked
returns-in-Err-TooLong-clause-rechecked g c =
    let command : Command = c.args.command in
    let old = g.S.Source.left c.args.source.now in
    let asked = g.B.Bench.asked c.args.bench.now in
    ok_again c.refuse.result c.or_no_memory-in-Err-TooLong.result _
    (λ answer. (bytes : List ℕ) → old ≡ Some bytes
    → RecheckedOnBytes command bytes answer.status asked asked)
    (IfOk-weaker c.refuse.result (λ answer. answer ≡ refusal_answer (Limit Input))
    (λ answer. (bytes : List ℕ) → old ≡ Some bytes
    → RecheckedOnBytes command bytes answer.status asked asked)
    (λ answer same bytes told. refused_asks command bytes (Limit Input) answer asked asked same)
    c.refuse.ensures.says)
    c.or_no_memory-in-Err-TooLong.ensures
