-- What the search for the one node that passes a test has found.
use Rattle.std.specs.Prelude.{◌≡◌, ℕ, Bool, List, Option, Some, None}
use Rattle.pls_configuration.specs.declared.row.State.{State}
use Rattle.pls_configuration.specs.declared.row.NodeRow.{NodeRow}
use Rattle.pls_facts.specs.OnlyNode.{IsOnly, passing}

-- the one that passes, or that there is none
abbrev pub IsOnlyFound : (State → Bool) → List NodeRow → Option ℕ → Type 0
IsOnlyFound test rows None = passing test rows ≡ 0
IsOnlyFound test rows (Some id) = IsOnly test rows id
