-- What was said, as a command.
use Rattle.std.specs.Prelude.{◌≡◌, ℕ, List}
use Rattle.pls_words.specs.Words.{Said}
use Rattle.pls_expressions.specs.Expression.{Expression, IsSmall}
use Rattle.pls_scheme_text.specs.ExpressionText.{expression_text}
use Rattle.pls_app.specs.declared.command.Command.{Command}
use Rattle.pls_app.specs.declared.command.Command.TheVariants.{ByRules, Print, Trial, With}
use Rattle.pls_app.specs.declared.command.Task.{Task}
use Rattle.pls_app.specs.Command.{IsCommand, IsSaid}
use Rattle.pls_app.specs.TrialWords.{IsTrialSaid}

-- the command is this task with the scheme that the word is
abbrev pub IsTaskWith : Task → List ℕ → Command → Type 0
IsTaskWith task word (With other scheme) =
    (other ≡ task) × (word ≡ expression_text scheme) × IsSmall scheme
IsTaskWith task word (Trial nodes seed) = ⊥
IsTaskWith task word (ByRules other) = ⊥
IsTaskWith task word (Print name) = ⊥

-- what was said is no task with a scheme
abbrev pub IsNoTask : Said → Type 0
IsNoTask said = (task : Task) (scheme : Expression) → IsSaid said (With task scheme) → ⊥

-- it is no trial
abbrev pub IsNoTrial : Said → Type 0
IsNoTrial said = (nodes seed : ℕ) → IsTrialSaid said nodes seed → ⊥

-- it is no command
abbrev pub IsNotSaid : Said → Type 0
IsNotSaid said = (command : Command) → IsSaid said command → ⊥

-- some words are the command
abbrev pub IsInWords : Command → Type 0
IsInWords command = (words : List (List ℕ)) × IsCommand words command
