use Rattle.std.proofs.Common.{◌≡◌, ◌∙◌, ◌+◌, ◌++◌, ◌∷◌, List, ap, arith, drop, length, map, sym}
use Rattle.std.proofs.lemmas.List.{drop_more}
use Rattle.pls_rules.specs.declared.expr.BoolExpr.{BoolExpr}
use Rattle.pls_rules.specs.HeldTrees.{formula_of}
use Rattle.pls_compile.specs.Code.{rules_code}
use Rattle.pls_compile.proofs.Emitting.{rule_emitted}
use Rattle.pls_compile.proofs.code.compile.Goals as goal

pub loop-rule-preserved : goal.loop-rule-preserved
loop-rule-preserved c =
    let xs : List BoolExpr = c.deref-rule-items.result.now in
    let i = c.loop-rule.rule-index in
    let item : BoolExpr = c.rule-item.result in
    let base = c.loop-rule.instrs.items in
    let here : drop i xs ≡ item ∷ drop (i + 1) xs =
    drop_more xs i item c.loop-rule-test.true
    ∙ ap (λ (x : BoolExpr). x ∷ drop (i + 1) xs) (sym c.rule-item.is) in
    record {
      in_numbers = omega (arith, c.loop-rule.invariant.in_numbers);
      so_far = rule_emitted base c.emit_formula.new.code.items c.put.new.code.items _
          (formula_of item) (map formula_of (drop (i + 1) xs)) c.loop-rule.number
          (ap (λ (rest : List BoolExpr). base ++ rules_code (length base) c.loop-rule.number
          (map formula_of rest)) (sym here) ∙ c.loop-rule.invariant.so_far)
          c.in_ok-emit_formula.ensures c.in_ok-put.ensures;
    }
