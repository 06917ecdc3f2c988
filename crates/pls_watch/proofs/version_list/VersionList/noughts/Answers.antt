use Rattle.std.proofs.Common.{◌∙◌, map, ap}
use Rattle.pls_watch.specs.declared.label_version.LabelVersion.{LabelVersion}
use Rattle.pls_watch.proofs.Columns.{map-replicate}
use Rattle.pls_watch.proofs.version_list.VersionList.noughts.Goals as goal

pub returns-clause-versions : goal.returns-clause-versions
returns-clause-versions c =
    ap (map (λ (item : LabelVersion). item.version))
    (c.in_ok-items.ensures.items_if_clones_equal (λ y is. is))
    ∙ map-replicate (λ (item : LabelVersion). item.version) c.args.count (record { version = 0; label = 0 })
