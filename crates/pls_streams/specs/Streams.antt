-- What calls on sources and sinks do to their bytes and to their counts of faults.
use Rattle.std.specs.Prelude.{◌≡◌, ℕ, ◌+◌, ◌-◌, ◌^◌, ◌<◌, ◌≤◌, min, List, length, take, drop, Option, Some, None, Result, OnErr, ⊤}
use Rattle.std.specs.Io.KnownBytes.{Appends}

-- a count has risen, or stands at the last value of a u64
abbrev pub Rose : ℕ → ℕ → Type 0
Rose before now = min (before + 1) (2 ^ 64 - 1) ≤ now

-- a count of faults did not fall in a call, and has risen where the call failed
abbrev pub HasCause : {T E : Type 0} → ℕ → ℕ → Result T E → Type 0
HasCause before now result = (before ≤ now) × OnErr result (Rose before now)

-- of the bytes that a source had left, where it tells them, it has lost the first n and no more
abbrev pub LosesFirst : Option (List ℕ) → Option (List ℕ) → ℕ → Type 0
LosesFirst None new n = ⊤
LosesFirst (Some bytes) new n = (n ≤ length bytes) × (new ≡ Some (drop n bytes))

-- of the bytes that a source had left, where it tells them, it has lost the first few, at most so
-- many
abbrev pub LosesAtMost : Option (List ℕ) → Option (List ℕ) → ℕ → Type 0
LosesAtMost old new most = (n : ℕ) × (n ≤ most) × LosesFirst old new n

-- a sink has taken a front of these bytes, but not all of them
abbrev pub AppendsPart : Option (List ℕ) → Option (List ℕ) → List ℕ → Type 0
AppendsPart old new bytes = (n : ℕ) × (n < length bytes) × Appends old new (take n bytes)

-- a sink whose count of faults stayed, and which is sure of the bytes that are still to come
pub record StaysSure (IsSureOf : ℕ → Type 0) (left before now : ℕ) : Type 0 where
  pub unfailing : now ≡ before
  pub sure : IsSureOf left
