use Rattle.std.proofs.Common.{◌∙◌, set, ap}
use Rattle.std.proofs.lemmas.List.{map-set}
use Rattle.pls_watch.specs.declared.label_version.LabelVersion.{LabelVersion}
use Rattle.pls_watch.specs.inner.Columns.{VersionColumns}
use Rattle.pls_watch.proofs.version_list.VersionList.set.Goals as goal

pub returns-clause-versions : goal.returns-clause-versions
returns-clause-versions c =
    map-set (λ (item : LabelVersion). item.version) c.self.inside.items.items c.args.place
    c.args.item
    ∙ ap (λ (list : VersionColumns). set list.versions c.args.place c.args.item.version) c.self.view_is

pub returns-clause-labels : goal.returns-clause-labels
returns-clause-labels c =
    map-set (λ (item : LabelVersion). item.label) c.self.inside.items.items c.args.place
    c.args.item
    ∙ ap (λ (list : VersionColumns). set list.labels c.args.place c.args.item.label) c.self.view_is
