use Rattle.std.proofs.Common.{◌≡◌, map, replicate}
use Rattle.pls_watch.specs.declared.label_version.LabelVersion.{LabelVersion}
use Rattle.pls_watch.specs.inner.Numbers.{ArePlaces}
use Rattle.pls_watch.proofs.version_list.VersionList.first.Given as goal

abbrev pub invariant-loop-place : goal.invariant-loop-place
invariant-loop-place l =
    (map (λ (item : LabelVersion). item.version) l.items.items ≡ replicate l.place 0)
    × ArePlaces l.place (map (λ (item : LabelVersion). item.label) l.items.items)
