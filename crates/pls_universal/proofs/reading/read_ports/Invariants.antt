use Rattle.std.proofs.Common.{◌≡◌, ◌-◌, ◌≤◌}
use Rattle.pls_numbers.specs.Taking.{many_off}
use Rattle.pls_numbers.specs.laws.TakingLaws.{behind_items}
use Rattle.pls_universal.specs.Reading.{port_off}
use Rattle.pls_universal.proofs.reading.read_ports.Given as goal

-- those so far and those that are left are all
abbrev pub invariant-loop : goal.invariant-loop
invariant-loop g l = record {
  within : l.counter ≤ l.count;
  same : l.numbers.clean ≡ l.initial.numbers.clean;
  all : many_off port_off l.count l.initial.numbers.numbers
      ≡ behind_items l.ports.items (many_off port_off (l.count - l.counter) l.numbers.numbers);
}
