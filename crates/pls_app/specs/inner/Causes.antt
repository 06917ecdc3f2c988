-- Why a run ends as it does, at the calls below the public one.
use Rattle.std.specs.Prelude.{◌≡◌, ◌⊎◌, ℕ, List, Option, ⊤}
use Rattle.std.specs.Io.KnownBytes.{Appends}
use Rattle.pls_streams.specs.Streams.{AppendsPart, Rose}
use Rattle.pls_configuration.specs.declared.status.Status.{Status}
use Rattle.pls_configuration.specs.declared.status.Status.TheVariants.{Done, No, Usage, Refused, ReadFault, WriteFault, NoMemory, Limit}

-- a run that comes to no answer before it writes: a fault of the source, whose count rose, or want
-- of memory
abbrev pub IsCause : Status → ℕ → ℕ → Type 0
IsCause ReadFault old new = Rose old new
IsCause NoMemory old new = ⊤
IsCause WriteFault old new = ⊥
IsCause Done old new = ⊥
IsCause No old new = ⊥
IsCause Usage old new = ⊥
IsCause Refused old new = ⊥
IsCause Limit old new = ⊥

-- a text was written whole and the status is its own, or a write failed behind a front of it
abbrev pub WritesOrFails : Status → Status → ℕ → ℕ → Option (List ℕ) → Option (List ℕ) → List ℕ
    → Type 0
WritesOrFails due status old_faults new_faults old new text =
    ((status ≡ due) × Appends old new text)
    ⊎ ((status ≡ WriteFault) × Rose old_faults new_faults × AppendsPart old new text)
