-- The pieces that lines of a report are made of.
use Rattle.std.specs.Prelude.{◌≡◌, ℕ, codes, Bool, true, false, List, [], ◌∷◌, ◌++◌, decimal}
use Rattle.std.specs.List.{flat_map}
use Rattle.pls_configuration.specs.Verdict.{verdict_text}
use Rattle.pls_sim.specs.declared.outcome.Outcome.{Outcome}
use Rattle.pls_sim.specs.declared.outcome.Outcome.TheVariants.{Decided, Waiting}

-- a space and a number, for each of some numbers
abbrev pub spaced : List ℕ → List ℕ
spaced numbers = flat_map (λ number. 32 ∷ decimal number) numbers

-- what a node's line says behind its identity
abbrev pub outcome_tail : Outcome → List ℕ
outcome_tail (Decided verdict) = 32 ∷ verdict_text verdict
outcome_tail (Waiting ports) = codes " waiting" ++ spaced ports

-- what the line of a look says behind the outcome: which ports are stale, where there is one
abbrev pub stale_tail : List ℕ → List ℕ
stale_tail [] = []
stale_tail (port ∷ ports) = codes " stale" ++ spaced (port ∷ ports)

-- what a report's last line says behind the number of those that reject
abbrev pub waiting_tail : Bool → ℕ → List ℕ
waiting_tail true count = codes " waiting " ++ decimal count
waiting_tail false count = []

-- what the line of a round says behind its number and the number of nodes checked
abbrev pub connected_tail : Bool → List ℕ
connected_tail true = codes " connected yes rejecting "
connected_tail false = codes " connected no rejecting "

-- the text goes on from another
abbrev pub BeginsWith : List ℕ → List ℕ → Type 0
BeginsWith front text = (more : List ℕ) × (text ≡ front ++ more)
