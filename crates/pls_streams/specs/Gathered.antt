-- What a call does that puts a piece of a text behind bytes that wait to be written: the bytes that
-- wait before and now, those that the sink has taken, its counts of faults, and what it is sure of.
use Rattle.std.specs.Prelude.{◌≡◌, ℕ, ◌≤◌, ◌-◌, List, ◌++◌, length, Option, Result, MatchResult}
use Rattle.std.specs.Io.KnownBytes.{Appends}
use Rattle.pls_streams.specs.Streams.{AppendsPart, Rose, StaysSure}

-- a piece was put behind those that wait: some of them all were taken, and the others wait
pub record Wrote (waited waits : List ℕ) (old new : Option (List ℕ)) (before now : ℕ)
    (Sure SureNow : ℕ → Type 0) (bytes : List ℕ) : Type 0 where
  pub taken : List ℕ
  pub is : waited ++ bytes ≡ taken ++ waits
  pub all : Appends old new taken
  pub never_falls : before ≤ now
  pub sure : (most : ℕ) → Sure most → length (waited ++ bytes) ≤ most
      → StaysSure SureNow (most - length taken) before now

-- a call failed, and the sink took a front of what waited and of the piece, but not all
pub record WroteFront (waited : List ℕ) (old new : Option (List ℕ)) (before now : ℕ)
    (Sure : ℕ → Type 0) (bytes : List ℕ) : Type 0 where
  pub part : AppendsPart old new (waited ++ bytes)
  pub rose : Rose before now
  pub never_falls : before ≤ now
  pub never_sure : (most : ℕ) → Sure most → length (waited ++ bytes) ≤ most → ⊥

-- what a call with this result did: where it is `Ok` the piece was put behind the bytes that wait,
-- else the sink took a front alone
abbrev pub Writes : {T E : Type 0} → List ℕ → List ℕ → Option (List ℕ) → Option (List ℕ) → ℕ → ℕ
    → (ℕ → Type 0) → (ℕ → Type 0) → Result T E → List ℕ → Type 0
Writes waited waits old new before now Sure SureNow result bytes =
    MatchResult result (λ _. Wrote waited waits old new before now Sure SureNow bytes)
    (λ _. WroteFront waited old new before now Sure bytes)
