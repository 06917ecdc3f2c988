use Rattle.std.proofs.Common.{◌≡◌, subst}
use Rattle.std.proofs.lemmas.Result.{IfOk-weaker}
use Rattle.pls_streams.specs.declared.refusal_number.TheConstants.{NO_RING}
use Rattle.pls_streams.specs.declared.text_error.TextError.TheVariants.{Sense}
use Rattle.pls_splice.specs.Ring.{SaysNoRing}
use Rattle.pls_splice.specs.declared.ring_error.RingError.TheVariants.{NotRing}
use Rattle.pls_app.specs.Answer.{refusal_answer}
use Rattle.pls_app.specs.inner.Tasks.{DoesSplice}
use Rattle.pls_app.proofs.Spliced.{splice_no_ring}
use Rattle.pls_app.proofs.splice.splice.Goals as goal

pub returns-in-Err-NotRing-clause-does : goal.returns-in-Err-NotRing-clause-does
returns-in-Err-NotRing-clause-does g c =
    let judge = g.V.Checker.judge c.args.checker.now in
    let net = c.args.net in
    let id = c.in-Err-NotRing.id in
    let says : SaysNoRing net (NotRing id) =
    subst (SaysNoRing net) c.in-Err-NotRing.field-0-is c.in-Err-NotRing.ensures.refused in
    IfOk-weaker c.refuse_at.result (λ answer. answer ≡ refusal_answer (Sense NO_RING id))
    (DoesSplice judge c.args.code net c.args.labels)
    (splice_no_ring judge c.args.code net c.is_valid.ensures c.args.labels id says.1)
    (rw c.in-Err-NotRing.field-0-is at c.refuse_at.ensures.says)
