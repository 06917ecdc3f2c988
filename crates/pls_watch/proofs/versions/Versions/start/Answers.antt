use Rattle.std.proofs.Common.{rules, ◌≡◌, ◌∙◌, ℕ, List, [], length, replicate, ap, refl, subst, sym}
use Rattle.std.proofs.lemmas.List.{length-replicate}
use Rattle.std.proofs.lemmas.List.Elements.{All-nil}
use Rattle.pls_configuration.specs.Configuration.{ports_in}
use Rattle.pls_schedule.specs.declared.event.Event.{Event}
use Rattle.pls_sim.specs.Applying.{Played}
use Rattle.pls_watch.specs.inner.Woven.{AreWoven, woven}
use Rattle.pls_watch.specs.inner.Columns.{VersionColumns}
use Rattle.pls_watch.specs.inner.Numbers.{ArePlaces}
use Rattle.pls_watch.proofs.Keep.{kept_start}
use Rattle.pls_watch.proofs.Numbers.{numbered_start}
use Rattle.pls_watch.proofs.versions.Versions.start.Goals as goal

pub invariant_of-result-2 : goal.invariant_of-result-2
invariant_of-result-2 c =
    let ports : c.ports.result ≡ ports_in c.args.net.now =
    c.ports.ensures ∙ ap ports_in c.in_ok-sim.ensures.network in
    let empty : c.sim.inside.events.items ≡ [] =
    ap (λ (played : Played). played.events) c.sim.view_is ∙ c.in_ok-sim.ensures.none in
    let none : woven c.sim.inside.events.items [] ≡ [] =
    ap (λ (events : List Event). woven events []) empty in
    rw (
      c.in_ok-with_capacity.ensures.items,
      c.in_ok-with_room.ensures.versions,
      c.in_ok-with_room.ensures.labels,
      none,
    ) (
      search rules,
      kept_start _ _ _ c.len.ensures.valid
          (c.in_ok-first.ensures.versions ∙ ap (λ (count : ℕ). replicate {A = ℕ} count 0)
          c.len.ensures.len)
          (ap (λ (list : VersionColumns). length list.versions) c.held.view_is
          ∙ ap length c.in_ok-held.ensures.versions ∙ length-replicate c.ports.result 0 ∙ ports),
      search rules,
      numbered_start _ _ _
          (subst (λ (count : ℕ). ArePlaces count c.in_ok-first.field-0.labels) c.len.ensures.len
          c.in_ok-first.ensures.labels)
          (ap (λ (list : VersionColumns). length list.labels) c.held.view_is
          ∙ c.in_ok-held.ensures.labels ∙ ports),
      search rules,
      subst (λ (events : List Event). AreWoven events []) (sym empty)
          (record { behind = All-nil _; count = refl }),
    )
