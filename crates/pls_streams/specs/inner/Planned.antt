-- Which calls on a source or sink in memory fail.
use Rattle.std.specs.Prelude.{ℕ, ◌+◌, ◌<◌, ◌≤◌, List, length, Contains}
use Rattle.pls_streams.specs.Plan.{Plan, PlannedSink}

-- the next call after so many is one that is to fail
abbrev pub IsPlanned : Plan → ℕ → Type 0
IsPlanned plan calls = Contains plan.fails (calls + 1)

-- there is something to write, and the sink's room is used up
abbrev pub IsFullFor : PlannedSink → List ℕ → Type 0
IsFullFor sink piece = (0 < length piece) × (sink.room ≤ length sink.taken)
