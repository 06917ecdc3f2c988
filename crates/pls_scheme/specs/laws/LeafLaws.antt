-- Which leaf verdicts by rules name.
use Rattle.std.proofs.Common.{ℕ, ◌+◌, Bool, true, false, List, [], ◌∷◌, Option, Some, None, if◌then◌else◌, arith}
use Rattle.pls_configuration.specs.declared.verdict.Verdict.TheVariants.{Reject}
use Rattle.pls_scheme.specs.Judging.{judged_from, LeafWithin}
use Rattle.pls_scheme.specs.SchemeLaws.{LeavesWithin}
use Rattle.pls_scheme.specs.Reading.{Read, ReadPort, judge_by, judged_read, read_ports}

-- a verdict by rules names leaf 1
pub judged-leaf : (number : ℕ) (rules : List Bool) → LeafWithin 1 (judged_from number rules)
judged-leaf number [] = tt
judged-leaf number (holds ∷ others) = by holds (judged-leaf (number + 1) others)
  where
    by : (b : Bool) → LeafWithin 1 (judged_from (number + 1) others)
        → LeafWithin 1 (if b then judged_from (number + 1) others else Reject 1 number)
    by true later = later
    by false later = omega arith

-- a verdict by a way to read labels and by rules names leaf 1
pub judge_by-leaf : {L : Type 0} (read : List Bool → Option L) (rules : Read L → List Bool)
    → LeavesWithin 1 (judge_by read rules)
judge_by-leaf {L} read rules view = by (read view.own) (read_ports read view.ports)
  where
    by : (own : Option L) (ports : Option (List (ReadPort L)))
        → LeafWithin 1 (judged_read rules view own ports)
    by None ports = omega arith
    by (Some own) None = omega arith
    by (Some own) (Some ports) =
        judged-leaf 3
        (rules (record { id = view.id; state = view.state; own = own; ports = ports }))
