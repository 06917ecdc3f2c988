use Rattle.std.proofs.Common.{◌≡◌, ◌+◌, ◌++◌, drop, length, map}
use Rattle.pls_rules.specs.HeldTrees.{formula_of}
use Rattle.pls_compile.specs.Code.{code_of_rules, rules_code}
use Rattle.pls_compile.proofs.code.compile.Given as goal

-- the code so far, with that of the rules that are left, is the code of all
abbrev pub invariant-loop-rule : goal.invariant-loop-rule
invariant-loop-rule l = record {
  in_numbers : l.number ≡ 3 + l.rule-index;
  so_far : l.instrs.items ++ rules_code (length l.instrs.items) l.number
      (map formula_of (drop l.rule-index l.rule-items))
      ≡ code_of_rules (map formula_of l.set.rules.items);
}
