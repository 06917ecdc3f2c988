use Rattle.std.proofs.Common.{◌≡◌, ap, List, ℕ}
use Rattle.pls_configuration.specs.declared.status.Status.TheVariants.{No}
use Rattle.pls_app.specs.Answer.{no_answer}
use Rattle.pls_app.specs.Said.{Answer}
use Rattle.pls_app.proofs.Naming.{no_text}
use Rattle.pls_app.proofs.answer.no_answer.Goals as goal

pub returns-clause-says : goal.returns-clause-says
returns-clause-says c =
    let answer : List ℕ → Answer = λ text. record { status = No; text = text } in
    let text : c.into_bytes.result.items ≡ (no_answer c.args.parts.now c.args.ids.now).text =
    rw (
      c.into_bytes.ensures.value,
      c.in_ok-push_str-2.ensures.bytes,
      c.in_ok-push_ids.ensures,
      c.named_ids.ensures,
      c.in_ok-push_str.ensures.bytes,
      c.new-text.ensures.bytes,
    ) (no_text c.args.parts.now c.args.ids.now) in
    ap answer text
