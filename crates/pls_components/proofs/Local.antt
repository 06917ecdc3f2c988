-- What nodes see and answer in their component, and what a scheme shows of it.
use Rattle.std.proofs.Common.{◌≡◌, ◌∙◌, ℕ, ◌<◌, Bool, List, length, slice_get, All, Some, option_map, sym, ap, subst, arith}
use Rattle.std.proofs.lemmas.List.{length-map}
use Rattle.std.proofs.lemmas.Option.{slice_get-map}
use Rattle.pls_configuration.specs.declared.row.NodeRow.{NodeRow}
use Rattle.pls_configuration.specs.declared.verdict.Verdict.{Verdict}
use Rattle.pls_configuration.specs.declared.verdict.Verdict.TheVariants.{Accept}
use Rattle.pls_configuration.specs.Configuration.{IsNetwork}
use Rattle.pls_labels.specs.Seen.{Seen, label_of, seen, views}
use Rattle.pls_scheme.specs.Judging.{verdicts_by}
use Rattle.pls_scheme.specs.SchemeLaws.{IsSound}
use Rattle.pls_components.specs.Components.{IsComponent, items_at}
use Rattle.pls_components.specs.Parts.{AcceptAt}
use Rattle.pls_components.proofs.Items.{items-at, length-items}
use Rattle.pls_components.proofs.Part.{part_connected, part_network, places_within}
use Rattle.pls_components.proofs.PartViews.{part_views}

module _ (rows : List NodeRow) (net : IsNetwork rows) (labels : List (List Bool))
    (each : length labels ≡ length rows) (places : List ℕ) (is : IsComponent rows places) where
  many : length (views rows labels) ≡ length rows
  many = length-map rows (seen (label_of rows labels))

  within : All (λ (place : ℕ). place < length (views rows labels)) places
  within k d inside = let within = places_within rows net places is k d inside in omega (arith, many)

  -- a node has the same view in its component
  pub view_same : (i j : ℕ) → slice_get places j ≡ Some i
      → slice_get (views (items_at rows places) (items_at labels places)) j
      ≡ slice_get (views rows labels) i
  view_same i j at =
      ap (λ (seen : List Seen). slice_get seen j) (part_views rows net places is labels each)
      ∙ items-at (views rows labels) places within j i at

  -- and the same verdict
  pub verdict_same : (judge : Seen → Verdict) (i j : ℕ) → slice_get places j ≡ Some i
      → slice_get (verdicts_by judge (items_at rows places) (items_at labels places)) j
      ≡ slice_get (verdicts_by judge rows labels) i
  verdict_same judge i j at =
      slice_get-map judge (views (items_at rows places) (items_at labels places)) j
      ∙ ap (option_map judge) (view_same i j at)
      ∙ sym (slice_get-map judge (views rows labels) i)

  -- a sound judgement shows the property of a component whose nodes all accept
  pub part_holds : (judge : Seen → Verdict) (holds : List NodeRow → Type 0) → IsSound judge holds
      → AcceptAt judge rows labels places → holds (items_at rows places)
  part_holds judge holds sound accept =
      sound (items_at rows places) (items_at labels places) (part_network rows net places is)
      (part_connected rows net places is)
      (length-items labels places (λ k d inside.
      let within = places_within rows net places is k d inside in omega arith)
      ∙ sym (length-items rows places (places_within rows net places is)))
      (subst (All (λ (view : Seen). judge view ≡ Accept))
      (sym (part_views rows net places is labels each)) accept)
