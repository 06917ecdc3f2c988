-- A text that is one rules part, and what is read of it.
use Rattle.std.proofs.Common.{◌≡◌, ◌∙◌, ℕ, ◌+◌, List, ◌++◌, append-nil, Result, Ok, Err, sym, ap}
use Rattle.std.specs.Result.{IfErr, IfOk}
use Rattle.pls_streams.specs.declared.text_error.TextError.{TextError}
use Rattle.pls_streams.specs.declared.text_error.TextError.TheVariants.{NoMemory}
use Rattle.pls_lines.specs.Part.{PassesWhole}
use Rattle.pls_rules.specs.HeldTrees.{set_of}
use Rattle.pls_rules.specs.RuleSet.{Rules}
use Rattle.pls_rules.specs.declared.rule_set.RuleSet.{RuleSet}
use Rattle.pls_rules_part.specs.Printable.{IsPrintable}
use Rattle.pls_rules_part.specs.Refusal.{IsRulesRefusal}
use Rattle.pls_rules_part.specs.RulesScan.{PassesRules, WrittenRules}
use Rattle.pls_rules_part.specs.RulesText.{rules_text, said_of_set, set_said}
use Rattle.pls_rules_part.proofs.Printables.{printable_set, printed_memory}

-- what is kept of it is the text
pub whole_text : (text : List ℕ) (part : WrittenRules) → PassesWhole PassesRules text part
    → part.text ≡ text
whole_text text part whole =
    let said = whole.passed.said in
    whole.passed.tells.is
    ∙ sym (whole.passed.passed.stands ∙ ap (λ (rest : List ℕ). rules_text said ++ rest) whole.none
    ∙ append-nil (rules_text said))

module _ (set : Rules) (printable : IsPrintable set) (result : Result RuleSet TextError) where
  -- what is read of what was printed is the set
  pub set_again : IfOk result (λ read. set_of read ≡ set_said (said_of_set set))
      → IfOk result (λ read. set_of read ≡ set)
  set_again same = by result same
    where
      by : (result : Result RuleSet TextError)
          → IfOk result (λ read. set_of read ≡ set_said (said_of_set set))
          → IfOk result (λ read. set_of read ≡ set)
      by (Ok read) same = same ∙ printable_set set printable
      by (Err error) same = tt

  -- and it is refused for want of memory alone
  pub memory_alone : (heading : ℕ)
      → IfErr result (λ error. IsRulesRefusal heading (said_of_set set) error)
      → IfErr result (λ error. error ≡ NoMemory)
  memory_alone heading refused = by result refused
    where
      by : (result : Result RuleSet TextError)
          → IfErr result (λ error. IsRulesRefusal heading (said_of_set set) error)
          → IfErr result (λ error. error ≡ NoMemory)
      by (Ok read) refused = tt
      by (Err error) refused = printed_memory set printable (heading + 1) error refused
