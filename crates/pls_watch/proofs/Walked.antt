-- The ports of a node, walked one after another.
use Rattle.std.proofs.Common.{◌≡◌, ◌∙◌, ℕ, ◌+◌, Bool, false, List, [], ◌∷◌, ◌++◌, drop, Some, slice_get, sym, append_assoc}
use Rattle.pls_configuration.specs.declared.row.Port.{Port}
use Rattle.pls_sim.specs.Schedule.{failing_from}
use Rattle.pls_sim.proofs.Unheard.{adds_unheard}

-- a port that fails the test is put behind those in front of it
pub adds_one : (test : ℕ → Bool) (ports : List Port) (numbers : List ℕ) (p : ℕ) (port : Port)
    → slice_get ports p ≡ Some port
    → failing_from test 0 ports ≡ numbers ++ failing_from test p (drop p ports)
    → test port.nbr ≡ false
    → failing_from test 0 ports
    ≡ (numbers ++ p ∷ []) ++ failing_from test (p + 1) (drop (p + 1) ports)
adds_one test ports numbers p port at so_far fails =
    adds_unheard test ports numbers p port at so_far fails
    ∙ sym (append_assoc numbers (p ∷ []) (failing_from test (p + 1) (drop (p + 1) ports)))
