use Rattle.std.proofs.Common.{◌≡◌, ◌∙◌, Some, sym, ap, subst}
use Rattle.pls_sim.specs.declared.event_error.EventError.{EventError}
use Rattle.pls_watch.specs.declared.turn.Turn.TheVariants.{Plain}
use Rattle.pls_watch.specs.Turning.{Turned, turn_refusal}
use Rattle.pls_watch.specs.Watching.{Watched, turned_of, watch_refusal, watching}
use Rattle.pls_watch.specs.inner.Stock.{IsStocked, watched_by}
use Rattle.pls_watch_part.specs.WatchText.{watch_event}
use Rattle.pls_watch.proofs.Room.{play_refusal, same_refusal}
use Rattle.pls_watch.proofs.Spelled.{turn_watch}
use Rattle.pls_watch.proofs.Stocked.{knows_same, stocked_play, turned_same, watched_play}
use Rattle.pls_watch.proofs.watch.Watch.play.Goals as goal

pub returns-in_err-step-clause-refused : goal.returns-in_err-step-clause-refused
returns-in_err-step-clause-refused c =
    let old = c.self.inside in
    same_refusal (λ (error : EventError).
    watch_refusal c.args.self.now (watch_event c.args.event) ≡ Some error) c.from_residual.result
    c.from_residual.ensures.1
    (play_refusal c.args.self.now c.args.event
    ∙ ap (λ (watched : Watched). turn_refusal (turned_of watched) (Plain c.args.event)) (sym
    c.self.view_is)
    ∙ ap (λ (turned : Turned). turn_refusal turned (Plain c.args.event))
    (turned_same old.versions old.labels old.most_relabels old.most_bits)
    ∙ c.in_err-step.ensures.refused)

pub returns-clause-applies : goal.returns-clause-applies
returns-clause-applies c =
    let old = c.self.inside in
    play_refusal c.args.self.now c.args.event
    ∙ ap (λ (watched : Watched). turn_refusal (turned_of watched) (Plain c.args.event)) (sym
    c.self.view_is)
    ∙ ap (λ (turned : Turned). turn_refusal turned (Plain c.args.event))
    (turned_same old.versions old.labels old.most_relabels old.most_bits)
    ∙ c.in_ok-step.ensures.applies

pub returns-clause-taken : goal.returns-clause-taken
returns-clause-taken c =
    let old = c.self.inside in
    ap (λ (turned : Turned). watched_by turned old.labels old.most_relabels old.most_bits)
    c.in_ok-step.ensures.taken
    ∙ watched_play old.versions old.labels old.most_relabels old.most_bits c.args.event
    ∙ ap (watching (watch_event c.args.event)) c.self.view_is

pub invariant_of-self-2 : goal.invariant_of-self-2
invariant_of-self-2 c =
    let old = c.self.inside in
    subst (λ (turned : Turned). IsStocked old.net.now turned old.labels old.most_relabels old.most_bits
    old.relabels
    old.relabel_bits) (sym c.in_ok-step.ensures.taken)
    (stocked_play old.versions old.labels old.most_relabels old.most_bits c.args.event old.net.now old.relabels
    old.relabel_bits c.self.invariant)

pub returns-clause-others : goal.returns-clause-others
returns-clause-others c = λ i row stands differs.
    let old = c.self.inside in
    knows_same old.versions old.labels old.most_relabels old.most_bits c.args.self.now c.self.view_is
    (watch_event c.args.event) (Plain c.args.event) (turn_watch c.args.event) i row stands
    c.in_ok-step.field-0 differs c.in_ok-step.ensures.holds c.in_ok-step.ensures.stays
