use Rattle.std.proofs.Common.{◌≡◌, ◌<◌, ◌∙◌, ℕ, List, Some, ap, get_or, length, set, slice_get, sym}
use Rattle.std.proofs.lemmas.List.{set-get_or}
use Rattle.std.proofs.lemmas.Option.{same_Some, slice_get-get_or}
use Rattle.std.proofs.lemmas.Slice.Eq.{bytes_eq-Decides}
use Rattle.pls_sim.specs.declared.outcome.Outcome.{Outcome}
use Rattle.pls_watch.proofs.watch.Watch.renew_stale.Goals as goal

-- where just those ports are stale that were shown, the rows are as they were
as_shown : (old : List (ℕ × Outcome × List ℕ)) (place : ℕ) (shown : ℕ × Outcome × List ℕ)
    → place < length old → shown ≡ get_or old place shown
    → (id : ℕ) (outcome : Outcome) (before stale : List ℕ)
    → slice_get old place ≡ Some (id, outcome, before) → shown.2 ≡ stale
    → old ≡ set old place (id, outcome, stale)
as_shown old place shown within is id outcome before stale was are =
    let same : shown ≡ (id, outcome, before) =
    same_Some shown (id, outcome, before)
    (ap Some is ∙ sym (slice_get-get_or old place shown within) ∙ was) in
    sym (set-get_or old place shown)
    ∙ ap (set old place) (sym is)
    ∙ (λ k. set old place ((same k).0, (same k).1, are k))

pub returns-then-eq-clause-stale : goal.returns-then-eq-clause-stale
returns-then-eq-clause-stale c row id outcome before stands was =
    let same : c.as_slice-stale.result.now ≡ c.stale.result.now =
    (bytes_eq-Decides c.as_slice-stale.result.now c.stale.result.now).0
    (sym c.eq.ensures ∙ c.if-eq.true) in
    as_shown c.args.shown.now.rows c.args.i c.index-rows-i.result c.requires.shown
    (c.index-rows-i.is ∙ (λ k. get_or (c.rows.ensures k) c.args.i c.index-rows-i.result))
    id outcome before _ was
    (sym c.stale.ensures ∙ sym same ∙ c.as_slice-stale.ensures.value
    ∙ c.in_ok-list_stale.ensures.ports row stands)
