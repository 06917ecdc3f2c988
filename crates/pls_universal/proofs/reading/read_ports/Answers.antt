use Rattle.std.proofs.Common.{◌≡◌, ◌∙◌, ◌+◌, ◌-◌, ℕ, suc, sym, ap, arith}
use Rattle.pls_numbers.specs.Taking.{many_off}
use Rattle.pls_numbers.specs.laws.TakingLaws.{behind_items, behind_items-next, behind_items-none}
use Rattle.pls_universal.specs.Reading.{port_off}
use Rattle.pls_universal.proofs.reading.read_ports.Goals as goal

pub returns-in_default-clause-none : goal.returns-in_default-clause-none
returns-in_default-clause-none g c =
    let left : ℕ = c.args.count - (c.loop.counter + 1) in
    let one : c.args.count - c.loop.counter ≡ suc left = omega (arith, c.loop-test.true) in
    c.loop.invariant.all
    ∙ ap (λ (count : ℕ). behind_items c.loop.ports.items
    (many_off port_off count c.loop.numbers.numbers)) one
    ∙ behind_items-none port_off c.loop.ports.items c.loop.numbers.numbers left
    c.in_default.ensures.none

pub loop-preserved : goal.loop-preserved
loop-preserved g c =
    let left : ℕ = c.args.count - (c.loop.counter + 1) in
    let one : c.args.count - c.loop.counter ≡ suc left = omega (arith, c.loop-test.true) in
    record {
      within = omega (arith, c.loop-test.true);
      same = c.in-Some.ensures.same ∙ c.loop.invariant.same;
      all = c.loop.invariant.all
          ∙ ap (λ (count : ℕ). behind_items c.loop.ports.items
          (many_off port_off count c.loop.numbers.numbers)) one
          ∙ behind_items-next port_off c.loop.ports.items c.in-Some.port c.loop.numbers.numbers
          c.read_port.new.numbers.numbers left c.in-Some.ensures.found
          ∙ ap (λ items. behind_items items
          (many_off port_off left c.read_port.new.numbers.numbers)) (sym c.in_ok-push.ensures.items);
    }
