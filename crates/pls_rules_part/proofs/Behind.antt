-- The lines behind the heading of a part.
use Rattle.std.proofs.Common.{◌≡◌, ◌∙◌, ℕ, ◌+◌, Bool, true, false, List, [], ◌∷◌, ◌++◌, map, codes, refl, sym, ap}
use Rattle.std.specs.Bool.{OnFalse, OnTrue}
use Rattle.std.proofs.lemmas.List.{append_cancel_left}
use Rattle.pls_lines.specs.Lines.{Left, Passes, Stands}
use Rattle.pls_lines.specs.Text.{text_of}
use Rattle.pls_rules_part.specs.RulesScan.{TellsRules}
use Rattle.pls_rules_part.specs.RulesText.{RulesSaid, rule_line, rule_lines}
use Rattle.pls_rules_part.specs.inner.Adding.{StandsBehind}
use Rattle.pls_rules_part.specs.laws.LineLaws.{rules_word, words_fit}
use Rattle.pls_rules_part.proofs.Told.{words_written}

pub record Behind (said : RulesSaid) (old new : Left) : Type 0 where
  pub number : new.number ≡ old.number + 1
  pub stands : StandsBehind said new.rest

-- the lines of items and `end`
abbrev lines_to_end : List (List ℕ) → List ℕ
lines_to_end lines = text_of (lines ++ codes "end" ∷ [])

pub behind : (passed : Bool) (old new : Left) (said : RulesSaid) → TellsRules old.rest said
    → OnTrue passed (Passes old new (codes "rules" ∷ []))
    → OnFalse passed (Stands (λ next. next ≡ codes "rules") old.rest → ⊥)
    → Behind said old new
behind true old new said tells passes other =
    let lines = rule_lines said in
    let rest : new.rest ≡ lines_to_end (map rule_line lines) =
    append_cancel_left (codes "rules" ++ 10 ∷ []) new.rest (lines_to_end (map rule_line lines))
    (sym passes.stands ∙ tells.is) in
    record {
      number = passes.number;
      stands = record {
        are = tells.are;
        remains = record {
          fits = words_fit lines tells.are.each;
          is = rest ∙ ap lines_to_end (sym (words_written lines));
        };
      };
    }
behind false old new said tells passes other = absurd (other (record {
  line = codes "rules";
  after = lines_to_end (map rule_line (rule_lines said));
  is = refl;
  plain = rules_word.plain;
  cut = tells.is;
}))
