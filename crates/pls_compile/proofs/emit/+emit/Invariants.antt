use Rattle.std.proofs.Common.{◌+◌, ◌*◌}
use Rattle.pls_rules.specs.HeldTrees.{formula_of, term_of}
use Rattle.pls_compile.specs.Code.{formula_size, term_size}
use Rattle.pls_compile.proofs.emit.+emit.Given as goal

-- each is twice the size of what it writes, and a call that hands its trees on is one more
abbrev pub decreases-emit_formula : goal.decreases-emit_formula
decreases-emit_formula l = 2 * formula_size (formula_of l.formula.now)

abbrev pub decreases-emit_term : goal.decreases-emit_term
decreases-emit_term l = 2 * term_size (term_of l.term.now)

abbrev pub decreases-emit_terms : goal.decreases-emit_terms
decreases-emit_terms l =
    2 * (term_size (term_of l.first.now) + term_size (term_of l.second.now)) + 1

abbrev pub decreases-emit_formulas : goal.decreases-emit_formulas
decreases-emit_formulas l =
    2 * (formula_size (formula_of l.first.now) + formula_size (formula_of l.second.now)) + 1

abbrev pub decreases-emit_at_ports : goal.decreases-emit_at_ports
decreases-emit_at_ports l = 2 * formula_size (formula_of l.inner.now) + 1
