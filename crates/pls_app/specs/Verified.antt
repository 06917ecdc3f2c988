-- What is read back of labels that `mark` wrote, and what `verify` ends with on them.
use Rattle.std.specs.Prelude.{◌≡◌, ℕ, Bool, List, [], ◌∷◌, codes, Some, None}
use Rattle.pls_configuration.specs.declared.row.NodeRow.{NodeRow}
use Rattle.pls_bits.specs.declared.code_name.CodeName.{CodeName}
use Rattle.pls_inputs.specs.Parts.{Input, net_labelling}
use Rattle.pls_configuration.specs.declared.status.Status.TheVariants.{Done}
use Rattle.pls_expressions.specs.Expression.{Expression}
use Rattle.pls_scheme_text.specs.ExpressionText.{expression_text}
use Rattle.pls_app.specs.Said.{Answer}
use Rattle.pls_app.specs.Answer.{IsAnswer}

-- a network with labels of its nodes, and nothing more
abbrev pub labelled : CodeName → List NodeRow → List (List Bool) → Input
labelled code rows labels = record {
  network = Some rows;
  labels = Some (net_labelling code rows labels);
  schedule = None;
  edits = None;
  watch = None;
  rules = None;
}

-- the words of `verify` with a scheme
abbrev pub verify_words : Expression → List (List ℕ)
verify_words scheme = codes "verify" ∷ expression_text scheme ∷ []

-- the answer to the words on these bytes is `Done`
pub record IsDone (words : List (List ℕ)) (bytes : List ℕ) : Type 0 where
  pub answer : Answer
  pub is : IsAnswer words bytes answer
  pub done : answer.status ≡ Done
