use Rattle.std.proofs.Common.{◌≡◌, ◌+◌, ◌∙◌, ◌++◌, ◌∷◌, [], ℕ, List, ap, length, not, subst, sym}
use Rattle.pls_sim.specs.declared.outcome.Outcome.{Outcome}
use Rattle.pls_report.specs.Look.{look_is_well, look_text}
use Rattle.pls_watch_part.specs.declared.watch_event.WatchLine.{WatchLine}
use Rattle.pls_app.specs.WatchRefusal.{event_of, line_does_not_apply}
use Rattle.pls_watch.specs.Watching.{look_of}
use Rattle.pls_app.specs.inner.Watching.{AreShown, HasRoomForEvents, shown_at}
use Rattle.pls_app.proofs.WatchLines.{shown_more}
use Rattle.pls_app.proofs.WatchRoom.{refused_exactly, taken_exactly}
use Rattle.pls_app.proofs.watch.take_line.Goals as goal

pub returns-in-Event-clause-refused : goal.returns-in-Event-clause-refused
returns-in-Event-clause-refused g c =
    let watched = c.args.lookout.now.watched in
    let event = c.in-Event.event in
    let room : HasRoomForEvents watched (event ∷ []) =
    subst (λ (line : WatchLine). HasRoomForEvents watched (event_of line)) c.in-Event.is
    c.requires.room in
    c.is_ok.ensures.value
    ∙ taken_exactly c.step.result _ _ c.step.ensures.applies c.step.ensures.refused
    (refused_exactly watched event room)
    ∙ ap (λ (line : WatchLine). not (line_does_not_apply watched.network watched.events line))
    (sym c.in-Event.is)

pub returns-in_ok-keep_look-in-Look-clause-shown : goal.returns-in_ok-keep_look-in-Look-clause-shown
returns-in_ok-keep_look-in-Look-clause-shown g c looks are =
    let judge = g.K.Checker.judge c.args.lookout.now.checker in
    let watched = c.args.lookout.now.watched in
    let before : List (List ℕ) = c.args.lookout.now.kept in
    let look : List (ℕ × Outcome × List ℕ) = look_of judge watched in
    let rows : c.look.new.self.rows ≡ look = c.in_ok-look-in-Look.ensures.rows in
    let stays : c.look.new.self.kept ≡ before = c.in_ok-look-in-Look.ensures.kept in
    let now = c.in_ok-keep_look-in-Look.ensures.kept in
    let kept : before ++ look_text (length before + 1) look ∷ [] ≡ c.keep_look.new.self.kept =
    (λ k. sym stays k ++ look_text (length (sym stays k) + 1) (sym rows k) ∷ [])
    ∙ sym (λ k. (now k).kept) in
    let shows : look ≡ c.shown.result.now.rows =
    sym (c.shown.ensures.rows ∙ (λ k. (now k).rows) ∙ rows) in
    subst (λ (line : WatchLine). AreShown c.keep_look.new.self.kept c.is_well.result
    (looks ++ shown_at judge watched line)) (sym c.in-Look.is)
    (subst (λ (texts : List (List ℕ)). AreShown texts c.is_well.result (looks ++ look ∷ [])) kept
    (shown_more before c.args.well.now c.is_well.result looks look are
    (c.is_well.ensures ∙ sym (ap look_is_well shows))))
