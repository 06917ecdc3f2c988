-- What contracts see of a source and a sink in memory.
use Rattle.std.specs.Prelude.{◌≡◌, ℕ, ◌+◌, ◌≤◌, List, [], length}

-- how the calls go: each moves at most `step` bytes, and those fail whose numbers, counted from 1,
-- stand in `fails`
pub record Plan : Type 0 where
  pub step : ℕ
  pub fails : List ℕ

-- a source: the bytes left, its plan, and how many calls there were and how many of them failed,
-- both counted up to 2^64 - 1
pub record PlannedSource : Type 0 where
  pub left : List ℕ
  pub plan : Plan
  pub calls : ℕ
  pub faults : ℕ

-- a sink: the bytes taken, how many it takes in all, its plan, and its calls and failures
pub record PlannedSink : Type 0 where
  pub taken : List ℕ
  pub room : ℕ
  pub plan : Plan
  pub calls : ℕ
  pub faults : ℕ

-- a source of these bytes before its first call
abbrev pub new_source : List ℕ → ℕ → List ℕ → PlannedSource
new_source bytes step fails =
    record { left = bytes; plan = record { step = step; fails = fails }; calls = 0; faults = 0 }

-- a sink that has taken nothing, before its first call
abbrev pub new_sink : ℕ → ℕ → List ℕ → PlannedSink
new_sink room step fails = record {
  taken = [];
  room = room;
  plan = record { step = step; fails = fails };
  calls = 0;
  faults = 0;
}

-- no call is planned to fail, and there is room for so many bytes more
pub record HasRoomFor (sink : PlannedSink) (most : ℕ) : Type 0 where
  pub unfailing : sink.plan.fails ≡ []
  pub room : length sink.taken + most ≤ sink.room
