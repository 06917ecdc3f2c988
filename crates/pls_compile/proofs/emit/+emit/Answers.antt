use Rattle.std.proofs.Common.{◌∙◌, ◌+◌, ◌++◌, List, length, ap, sym}
use Rattle.std.proofs.lemmas.Result.{on_ok_weaker}
use Rattle.pls_rules.specs.declared.expr.BoolExpr.{BoolExpr}
use Rattle.pls_rules.specs.declared.expr.NumExpr.{NumExpr}
use Rattle.pls_rules.specs.Formula.{Sum}
use Rattle.pls_rules.specs.HeldTrees.{formula_of, term_of}
use Rattle.pls_compile.specs.declared.instr.Instr.{Instr}
use Rattle.pls_compile.specs.declared.instr.Instr.TheVariants.{Add as add, Mask as mask}
use Rattle.pls_compile.specs.Code.{formula_code, formula_size, term_code, term_size}
use Rattle.pls_compile.proofs.Emitting.{each_emitted, pair_emitted, sum_emitted}
use Rattle.pls_compile.proofs.Sizes.{formula-length, one_length, sum_length, term-length}
use Rattle.pls_compile.proofs.emit.+emit.Goals as goal

pub emit_terms-returns : goal.emit_terms-returns
emit_terms-returns t c =
    let base : List Instr = c.args.code.now.items in
    let first = term_of c.args.first.now in
    let second = term_of c.args.second.now in
    on_ok_weaker c.put.result (λ written.
    pair_emitted base (term_code (length base) first) c.emit_term.new.code.items
    c.emit_term-2.new.code.items c.put.new.code.items (λ n. term_code n second)
    (term_size first) c.args.instr c.in_ok-emit_term.ensures (term-length first (length base))
    c.in_ok-emit_term-2.ensures written) c.put.ensures

pub emit_formulas-returns : goal.emit_formulas-returns
emit_formulas-returns t c =
    let base : List Instr = c.args.code.now.items in
    let first = formula_of c.args.first.now in
    let second = formula_of c.args.second.now in
    on_ok_weaker c.put.result (λ written.
    pair_emitted base (formula_code (length base) first) c.emit_formula.new.code.items
    c.emit_formula-2.new.code.items c.put.new.code.items (λ n. formula_code n second)
    (formula_size first) c.args.instr c.in_ok-emit_formula.ensures
    (formula-length first (length base)) c.in_ok-emit_formula-2.ensures written) c.put.ensures

pub emit_at_ports-returns : goal.emit_at_ports-returns
emit_at_ports-returns t c =
    let base : List Instr = c.args.code.now.items in
    let inner = formula_of c.args.inner.now in
    on_ok_weaker c.end_loop.result (λ written.
    each_emitted base c.begin_loop.new.code.items c.emit_formula.new.code.items
    c.put.new.code.items c.end_loop.new.code.items (λ n. formula_code n inner) c.args.first
    c.in_ok-start.start (formula_size inner + 1) c.args.instr c.in_ok-start.ensures.code
    c.in_ok-start.ensures.start c.in_ok-emit_formula.ensures c.in_ok-put.ensures
    (one_length (formula_code (length base + 3) inner) c.args.instr (formula_size inner)
    (formula-length inner (length base + 3))) written) c.end_loop.ensures

pub emit_term-returns-in_ok-put-in-Sum-2 : goal.emit_term-returns-in_ok-put-in-Sum-2
emit_term-returns-in_ok-put-in-Sum-2 t c =
    let base : List Instr = c.args.code.now.items in
    let test = formula_of c.deref-in-Sum.result.now in
    let number = term_of c.deref-in-Sum-2.result.now in
    on_ok_weaker c.end_loop.result (λ written.
    sum_emitted base c.begin_loop.new.code.items c.emit_formula.new.code.items
    c.emit_term.new.code.items c.put-in-Sum.new.code.items c.put-in-Sum-2.new.code.items
    c.end_loop.new.code.items (λ n. formula_code n test) (λ n. term_code n number) 0
    c.in_ok-start-in-Sum.start (formula_size test + term_size number + 2) (formula_size test) mask
    add c.in_ok-start-in-Sum.ensures.code c.in_ok-start-in-Sum.ensures.start
    c.in_ok-emit_formula-in-Sum.ensures (formula-length test (length base + 3))
    c.in_ok-emit_term-in-Sum.ensures c.in_ok-put-in-Sum.ensures c.in_ok-put-in-Sum-2.ensures
    (sum_length (formula_code (length base + 3) test)
    (term_code (length base + 3 + formula_size test) number) mask add (formula_size test)
    (term_size number) (formula-length test (length base + 3))
    (term-length number (length base + 3 + formula_size test))) written
    ∙ ap (λ (a : BoolExpr). base ++ term_code (length base) (Sum (formula_of a) number))
    c.deref-in-Sum.ensures
    ∙ ap (λ (b : NumExpr). base ++ term_code (length base) (Sum (formula_of c.in-Sum.test.value)
    (term_of b))) c.deref-in-Sum-2.ensures
    ∙ ap (λ (e : NumExpr). base ++ term_code (length base) (term_of e)) (sym c.in-Sum.is))
    c.end_loop.ensures
