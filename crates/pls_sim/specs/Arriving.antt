-- Where an emit arrives.
use Rattle.std.specs.Prelude.{◌≡◌, ℕ, List, Some}
use Rattle.pls_configuration.specs.declared.row.NodeRow.{NodeRow}
use Rattle.pls_sim.specs.Schedule.{Sent, goes_to}
use Rattle.pls_sim.specs.Ways.{IsPlaceOf, IsSlot}

-- the emit goes to a node, and the port of this number is that node's, and leads to who emits
abbrev pub ArrivesAt : List NodeRow → Sent → ℕ → Type 0
ArrivesAt rows emit number =
    (to : ℕ) × (goes_to rows emit ≡ Some to) × IsSlot rows number to emit.node

-- the node that the emit goes to stands at this place
abbrev pub GoesToPlace : List NodeRow → Sent → ℕ → Type 0
GoesToPlace rows emit place = (to : ℕ) → goes_to rows emit ≡ Some to → IsPlaceOf rows to place
