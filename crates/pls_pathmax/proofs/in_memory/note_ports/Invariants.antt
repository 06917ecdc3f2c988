use Rattle.std.proofs.Common.{◌≡◌, ℕ, ◌<◌, false, List, Some, get_or, length, take}
use Rattle.pls_numbers.specs.Shape.{said_by}
use Rattle.pls_scheme.specs.Reading.{ReadPort, read_ports, reading}
use Rattle.pls_pathmax.specs.Labels.{PathMaxLabel, pathmax_shape}
use Rattle.pls_pathmax.specs.inner.OnePass.{is_led_on}
use Rattle.pls_pathmax.proofs.in_memory.note_ports.Given as goal

-- what the ports so far lead on from is noted
abbrev pub invariant-loop-place : goal.invariant-loop-place
invariant-loop-place g l = (mine : PathMaxLabel) (ports : List (ReadPort PathMaxLabel))
    → said_by pathmax_shape g.C.NumCode.takes l.view.own ≡ Some mine
    → read_ports (said_by pathmax_shape g.C.NumCode.takes) l.view.ports ≡ Some ports
    → mine.own ≡ l.own → (k : ℕ) → k < length l.initial.flags → get_or l.flags k false
    ≡ is_led_on (reading l.view.id l.view.state mine (take l.place ports)) k
