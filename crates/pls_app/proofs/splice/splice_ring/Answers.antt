use Rattle.std.proofs.Common.{◌≡◌, ◌∙◌, Option, IfNone, IfSome, ap, subst, sym}
use Rattle.std.proofs.lemmas.Result.{IfOk-weaker}
use Rattle.pls_streams.specs.declared.refusal_number.TheConstants.{REJECTS}
use Rattle.pls_streams.specs.declared.text_error.TextError.TheVariants.{Sense}
use Rattle.pls_splice.specs.Crossing.{HasNoPair, IsFirstPair}
use Rattle.pls_splice.specs.declared.finding.Pair.{Pair}
use Rattle.pls_app.specs.Answer.{refusal_answer}
use Rattle.pls_app.specs.Splice.{crossed_answer, first_rejecting}
use Rattle.pls_app.specs.inner.Tasks.{DoesSplice}
use Rattle.pls_app.proofs.Spliced.{splice_crosses, splice_finds_none, splice_rejects}
use Rattle.pls_app.proofs.splice.splice_ring.Goals as goal

pub returns-in-Some-clause-does : goal.returns-in-Some-clause-does
returns-in-Some-clause-does g c =
    let judge = g.V.Checker.judge c.args.checker.now in
    let net = c.args.net in
    let id = c.in-Some.id in
    IfOk-weaker c.refuse_at.result (λ answer. answer ≡ refusal_answer (Sense REJECTS id))
    (DoesSplice judge c.args.code net c.args.labels)
    (splice_rejects judge c.args.code net c.is_valid.ensures c.args.labels c.args.ring.now
    c.requires.read c.in_ok-rows.rows.items c.in_ok-rows.ensures.decided id
    (ap first_rejecting (sym c.deref.ensures.value) ∙ sym c.first_rejecting.ensures ∙ c.in-Some.is))
    c.refuse_at.ensures.says

pub returns-in-Some-2-clause-does : goal.returns-in-Some-2-clause-does
returns-in-Some-2-clause-does g c =
    let judge = g.V.Checker.judge c.args.checker.now in
    let code = c.args.code in
    let net = c.args.net in
    let labels = c.args.labels in
    let order = c.args.ring.now in
    let pair = c.in-Some-2.pair in
    IfOk-weaker c.crossed_answer.result
    (λ answer. answer ≡ crossed_answer code net labels order pair.first pair.second)
    (DoesSplice judge code net labels)
    (splice_crosses judge code net c.is_valid.ensures labels order c.requires.read
    c.in_ok-rows.rows.items c.in_ok-rows.ensures.decided
    (ap first_rejecting (sym c.deref.ensures.value) ∙ sym c.in_default.ensures) pair.first
    pair.second
    (subst (λ (found : Option Pair). IfSome found
    (λ pair. IsFirstPair net labels order pair.first pair.second)) c.in-Some-2.is
    c.in_ok-pair.ensures.pair)) c.crossed_answer.ensures.says

pub returns-in-None-clause-does : goal.returns-in-None-clause-does
returns-in-None-clause-does g c =
    let judge = g.V.Checker.judge c.args.checker.now in
    let code = c.args.code in
    let net = c.args.net in
    let labels = c.args.labels in
    let order = c.args.ring.now in
    subst (DoesSplice judge code net labels) (sym c.uncrossed_answer.ensures.says)
    (splice_finds_none judge code net c.is_valid.ensures labels order c.requires.read
    c.in_ok-rows.rows.items c.in_ok-rows.ensures.decided
    (ap first_rejecting (sym c.deref.ensures.value) ∙ sym c.in_default.ensures)
    (subst (λ (found : Option Pair). IfNone found (HasNoPair net labels order)) c.in-None.is
    c.in_ok-pair.ensures.none))
