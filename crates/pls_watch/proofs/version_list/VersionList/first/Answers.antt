use Rattle.std.proofs.Common.{◌∙◌, ◌+◌, ◌++◌, ◌∷◌, [], ℕ, List, ap, subst, sym}
use Rattle.std.proofs.lemmas.List.{map-append}
use Rattle.pls_watch.specs.declared.label_version.LabelVersion.{LabelVersion}
use Rattle.pls_watch.specs.inner.Numbers.{ArePlaces}
use Rattle.pls_watch.proofs.Columns.{noughts_more, places_more}
use Rattle.pls_watch.proofs.version_list.VersionList.first.Goals as goal

pub loop-place-preserved : goal.loop-place-preserved
loop-place-preserved c =
    let place : ℕ = c.loop-place.place in
    let one : List LabelVersion = record { version = 0; label = place } ∷ [] in
    rw c.in_ok-push.ensures.items (
      map-append (λ (item : LabelVersion). item.version) c.loop-place.items.items one
          ∙ ap (λ (versions : List ℕ). versions ++ 0 ∷ []) c.loop-place.invariant.0
          ∙ noughts_more place,
      subst (ArePlaces (c.loop-place.place + 1))
          (sym (map-append (λ (item : LabelVersion). item.label) c.loop-place.items.items one))
          (places_more place _ c.loop-place.invariant.1),
    )
