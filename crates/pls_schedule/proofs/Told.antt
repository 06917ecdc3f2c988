-- A text says one schedule, whose length is counted.
use Rattle.std.proofs.Common.{◌≡◌, ◌∙◌, ℕ, ◌<◌, ◌≤◌, List, [], length, codes, Result, Ok, Err, sym, ap, subst, append-nil, arith}
use Rattle.std.specs.Result.{IfErr, IsErrAnd}
use Rattle.pls_streams.specs.declared.text_error.TextError.{TextError}
use Rattle.pls_streams.specs.declared.text_error.TextError.TheVariants.{NoMemory}
use Rattle.pls_lines.specs.LineKind.{Always, alone}
use Rattle.pls_lines.proofs.ListRead.{one_list}
use Rattle.pls_schedule.specs.declared.event.Event.{Event}
use Rattle.pls_configuration.specs.declared.limits.TheConstants.{MAX_LINES}
use Rattle.pls_schedule.specs.ScheduleText.{AreEvents, FitsEvent, IsEventsRefusal, HasEvents, TellsSchedule, WrittenSchedule, event_line, schedule_text}
use Rattle.pls_schedule.specs.laws.EventLaws.{event_lines, events_list, schedule_headings}

-- one text says one list of events
pub one_told : (text : List ℕ) (a b : List Event) → TellsSchedule text a → TellsSchedule text b
    → a ≡ b
one_told text a b p q =
    let one =
    one_list Always (alone (codes "schedule")) FitsEvent event_line AreEvents schedule_headings
    event_lines events_list events_list.heading events_list.heading a b [] [] tt tt p.fits q.fits
    (append-nil (schedule_text a) ∙ sym p.is ∙ q.is ∙ sym (append-nil (schedule_text b))) in
    one.items

-- how many events there are is told by their count, up to the limit and beyond it
pub over_limit : (written : WrittenSchedule) → HasEvents written → MAX_LINES < written.events
    → (events : List Event) → TellsSchedule written.text events → MAX_LINES < length events
over_limit written told over events tells =
    omega (arith, over, told.count, ap length (one_told written.text _ _ told.tells tells))

pub within_limit : (written : WrittenSchedule) → HasEvents written → written.events ≤ MAX_LINES
    → (events : List Event) → TellsSchedule written.text events → length events ≤ MAX_LINES
within_limit written told under events tells =
    omega (arith, under, told.count, ap length (one_told written.text _ _ told.tells tells))

-- for want of memory the events are within the limit
pub no_memory : {T : Type 0} (result : Result T TextError) (events : List Event)
    → IsErrAnd result (λ error. error ≡ NoMemory) → length events ≤ MAX_LINES
    → IfErr result (λ error. IsEventsRefusal events error)
no_memory (Ok value) events is few = tt
no_memory (Err error) events is few =
    subst (λ (error : TextError). IsEventsRefusal events error) (sym is) few
