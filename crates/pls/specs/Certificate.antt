-- Labels that prove a property.
use Rattle.std.specs.Prelude.{◌≡◌, Bool, List, length}
use Rattle.pls_configuration.specs.declared.row.NodeRow.{NodeRow}
use Rattle.pls_configuration.specs.declared.verdict.Verdict.{Verdict}
use Rattle.pls_configuration.specs.Walk.{IsConnected}
use Rattle.pls_labels.specs.Seen.{Seen}
use Rattle.pls_scheme.specs.Judging.{AllAccept}

-- the network is connected, there is a label for each node, and each node accepts
pub record IsCertificate (judge : Seen → Verdict) (rows : List NodeRow) (labels : List (List Bool))
    : Type 0 where
  pub connected : IsConnected rows
  pub each : length labels ≡ length rows
  pub accepted : AllAccept judge rows labels
