-- The rule set `leader` judges as the scheme.
use Rattle.std.proofs.Common.{◌+◌, Bool, length, refl, ap}
use Rattle.std.specs.Prelude.{◌||◌, ◌==◌}
use Rattle.pls_labels.specs.Seen.{Seen}
use Rattle.pls_numbers.specs.laws.FixedLaws.{are_numbers}
use Rattle.pls_scheme.specs.Reading.{has_number}
use Rattle.pls_facts.proofs.Sums.{eqb_turned}
use Rattle.pls_leader.specs.Leader.{is_one_less_deep, leader_label, leader_rules, leader_shape, numbers_of_leader}
use Rattle.pls_leader.specs.declared.leader.LeaderLabel.{LeaderLabel}
use Rattle.pls_compile.specs.RuleMeaning.{field_at, rules_hold}
use Rattle.pls_builtin.specs.Builtin.{leader_set}
use Rattle.pls_builtin.specs.Judges.{JudgesAs}
use Rattle.pls_builtin.proofs.Agreeing.{PointsWithin, port_in_numbers}
use Rattle.pls_builtin.proofs.AtPorts.{all_ports, some_port}
use Rattle.pls_builtin.proofs.Booleans.{agree_is, same_first}
use Rattle.pls_builtin.proofs.FixedFields.{fixed_agrees}

pub leader_agrees : (view : Seen) → PointsWithin view.state.up (length view.ports)
    → JudgesAs leader_set leader_shape leader_rules view
leader_agrees view within =
    fixed_agrees 2 numbers_of_leader leader_label
    (are_numbers 2 numbers_of_leader leader_label refl (λ _. refl) (λ _. refl) (λ _. refl))
    leader_rules (rules_hold leader_set.rules) view within (λ own ports here.
    same_first (all_ports (port_in_numbers numbers_of_leader)
    (λ found. field_at 0 found == own.root)
    (has_number (λ (label : LeaderLabel). label.root) own.root) (λ port. refl) ports)
    (same_first (agree_is (own.depth == 0) (view.id == own.root))
    (same_first (ap (λ (b : Bool). own.depth == 0 || b)
    (some_port (port_in_numbers numbers_of_leader)
    (λ found. field_at 1 found + 1 == own.depth) (is_one_less_deep own.depth)
    (λ port. eqb_turned (port.label.depth + 1) own.depth) ports))
    (same_first (agree_is (view.state.mark == 1) (own.depth == 0)) refl))))
