use Rattle.std.proofs.Common.{◌-◌, ◌≤◌}
use Rattle.pls_numbers.specs.Taking.{items_off}
use Rattle.pls_numbers.specs.laws.BehindLaws.{AreBehind}
use Rattle.pls_levels.proofs.KeptFronts.{IsKept}
use Rattle.pls_mst.specs.declared.glance.TheConstants.{FRONT}
use Rattle.pls_mst.specs.Labels.{level_off}
use Rattle.pls_mst.specs.inner.KeptLevel.{kept_form}
use Rattle.pls_mst.proofs.glance.read_front.Given as goal

-- the levels so far are kept and those that are left are read off, which stand behind them
abbrev pub invariant-loop-place : goal.invariant-loop-place
invariant-loop-place g l = record {
  within : l.place ≤ l.first;
  kept : IsKept kept_form FRONT l.place l.levels
      (items_off level_off l.count l.initial.numbers.numbers)
      (items_off level_off (l.count - l.place) l.numbers.numbers);
  behind : AreBehind level_off l.place l.initial.numbers l.numbers;
}
