use Rattle.std.proofs.Common.{◌≡◌, ◌-◌, ◌≤◌, ◌==◌}
use Rattle.std.specs.List.{list_all}
use Rattle.pls_numbers.specs.Taking.{items_off}
use Rattle.pls_mst.specs.Labels.{level_off}
use Rattle.pls_mst.proofs.reading.all_have.Given as goal

-- whether all have the fragment is whether those that are left have
abbrev pub invariant-loop : goal.invariant-loop
invariant-loop g l = record {
  within : l.counter ≤ l.count;
  all : list_all (λ level. level.fragment == l.own)
      (items_off level_off l.count l.initial.numbers.numbers)
      ≡ list_all (λ level. level.fragment == l.own)
      (items_off level_off (l.count - l.counter) l.numbers.numbers);
}
