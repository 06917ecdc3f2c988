use Rattle.std.proofs.Common.{◌≡◌, take}
use Rattle.pls_report.specs.Report.{rejecting, waiting}
use Rattle.pls_components.specs.Components.{items_at}
use Rattle.pls_app.proofs.component_rows.failing_at.Given as goal

abbrev pub invariant-loop-place : goal.invariant-loop-place
invariant-loop-place l =
    (l.rejecting ≡ rejecting (items_at l.outcomes (take l.place-index l.places)))
    × (l.waiting ≡ waiting (items_at l.outcomes (take l.place-index l.places)))
