use Rattle.std.proofs.Common.{◌≡◌, ◌∙◌, ◌+◌, ◌-◌, ℕ, suc, None, Some, IfNone, IfSome, sym, ap, subst, arith}
use Rattle.pls_numbers.specs.Taking.{many_off}
use Rattle.pls_numbers.specs.laws.TakingLaws.{behind_items, behind_items-next, behind_items-none}
use Rattle.pls_universal.specs.Reading.{row_off}
use Rattle.pls_universal.proofs.reading.read_rows.Goals as goal

pub returns-in_default-clause-none : goal.returns-in_default-clause-none
returns-in_default-clause-none g c =
    let left : ℕ = c.args.count - (c.loop.counter + 1) in
    let one : c.args.count - c.loop.counter ≡ suc left = omega (arith, c.loop-test.true) in
    c.loop.invariant.all
    ∙ ap (λ (count : ℕ). behind_items c.loop.rows.items
    (many_off row_off count c.loop.numbers.numbers)) one
    ∙ behind_items-none row_off c.loop.rows.items c.loop.numbers.numbers left
    (subst (λ o. IfNone o (row_off c.loop.numbers.numbers ≡ None)) c.in_default.is
    c.in_ok-row.ensures.none)

pub loop-preserved : goal.loop-preserved
loop-preserved g c =
    let left : ℕ = c.args.count - (c.loop.counter + 1) in
    let one : c.args.count - c.loop.counter ≡ suc left = omega (arith, c.loop-test.true) in
    record {
      within = omega (arith, c.loop-test.true);
      same = subst (λ o. IfSome o (λ _. c.read_row.new.numbers.clean ≡ c.loop.numbers.clean))
          c.in-Some.is c.in_ok-row.ensures.same ∙ c.loop.invariant.same;
      all = c.loop.invariant.all
          ∙ ap (λ (count : ℕ). behind_items c.loop.rows.items
          (many_off row_off count c.loop.numbers.numbers)) one
          ∙ behind_items-next row_off c.loop.rows.items c.in-Some.row c.loop.numbers.numbers
          c.read_row.new.numbers.numbers left
          (subst (λ o. IfSome o (λ row. row_off c.loop.numbers.numbers
          ≡ Some (row, c.read_row.new.numbers.numbers))) c.in-Some.is c.in_ok-row.ensures.found)
          ∙ ap (λ items. behind_items items
          (many_off row_off left c.read_row.new.numbers.numbers)) (sym c.in_ok-push.ensures.items);
    }
