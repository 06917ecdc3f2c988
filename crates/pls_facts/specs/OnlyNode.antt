-- The one node that passes a test of its state.
use Rattle.std.specs.Prelude.{◌≡◌, ℕ, Bool, true, List, Contains, count_by}
use Rattle.std.specs.Option.{is_none}
use Rattle.pls_configuration.specs.declared.row.State.{State}
use Rattle.pls_configuration.specs.declared.row.NodeRow.{NodeRow}

-- the node points at none
abbrev pub points_at_none : State → Bool
points_at_none state = is_none state.up

-- how many nodes pass
abbrev pub passing : (State → Bool) → List NodeRow → ℕ
passing test rows = count_by (λ row. test row.state) rows

-- exactly one node passes, and it has this identity
pub record IsOnly (test : State → Bool) (rows : List NodeRow) (id : ℕ) : Type 0 where
  pub one : passing test rows ≡ 1
  pub named : (row : NodeRow) → Contains rows row → test row.state ≡ true → row.id ≡ id
