-- What is said of `mark` and of `recheck` alone says nothing of the other tasks.
use Rattle.std.proofs.Common.{◌≡◌, ◌∙◌, ℕ, List, Result, Ok, Err, IfOk, sym}
use Rattle.pls_configuration.specs.declared.row.NodeRow.{NodeRow}
use Rattle.pls_configuration.specs.declared.status.Status.TheVariants.{Done}
use Rattle.pls_bits.specs.declared.code_name.CodeName.{CodeName}
use Rattle.pls_expressions.specs.Expression.{Expression}
use Rattle.pls_inputs.specs.Parts.{Input}
use Rattle.pls_app.specs.declared.command.Task.{Task}
use Rattle.pls_app.specs.declared.command.Task.TheVariants.{Mark, Recheck}
use Rattle.pls_app.specs.Said.{Answer}
use Rattle.pls_app.specs.inner.Tasks.{RecheckedIn, ShowsIn}

module _ {E : Type 0} (task other : Task) (is : task ≡ other) (scheme : Expression)
    (result : Result Answer E) where
  pub no_mark : (rows : List NodeRow) → ((code : CodeName) → other ≡ Mark code → ⊥)
      → IfOk result (λ answer. (code : CodeName) → task ≡ Mark code → answer.status ≡ Done
      → ShowsIn code scheme rows answer.text)
  no_mark rows none = by result
    where
      by : (result : Result Answer E) → IfOk result (λ answer. (code : CodeName)
          → task ≡ Mark code → answer.status ≡ Done → ShowsIn code scheme rows answer.text)
      by (Ok answer) = λ code mark done. absurd (none code (sym is ∙ mark))
      by (Err error) = tt

  pub no_recheck : (input : Input) (old new : ℕ) → (other ≡ Recheck → ⊥)
      → IfOk result (λ answer. task ≡ Recheck → RecheckedIn scheme input answer.status old new)
  no_recheck input old new none = by result
    where
      by : (result : Result Answer E) → IfOk result (λ answer. task ≡ Recheck
          → RecheckedIn scheme input answer.status old new)
      by (Ok answer) = λ recheck. absurd (none (sym is ∙ recheck))
      by (Err error) = tt
