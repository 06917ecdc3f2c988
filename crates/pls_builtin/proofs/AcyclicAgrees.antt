-- The rule set `acyclic` judges as the scheme.
use Rattle.std.proofs.Common.{ℕ, ◌+◌, Bool, length, refl, ap}
use Rattle.std.specs.Prelude.{nat_le, if◌then◌else◌, ◌||◌, ◌==◌}
use Rattle.pls_labels.specs.Seen.{Seen}
use Rattle.pls_numbers.specs.laws.FixedLaws.{are_numbers}
use Rattle.pls_scheme.specs.Reading.{ReadPort}
use Rattle.pls_facts.proofs.Sums.{eqb_turned}
use Rattle.pls_colour.specs.Acyclic.{acyclic_rules, acyclic_shape, acyclic_label, is_above, is_beside, numbers_of_acyclic}
use Rattle.pls_colour.specs.declared.acyclic.AcyclicLabel.{AcyclicLabel}
use Rattle.pls_compile.specs.RuleMeaning.{field_at, rules_hold}
use Rattle.pls_builtin.specs.Builtin.{acyclic_set}
use Rattle.pls_builtin.specs.Judges.{JudgesAs}
use Rattle.pls_builtin.proofs.Agreeing.{PointsWithin, port_in_numbers}
use Rattle.pls_builtin.proofs.AtPorts.{all_ports, sum_ports}
use Rattle.pls_builtin.proofs.Booleans.{same_first}
use Rattle.pls_builtin.proofs.FixedFields.{fixed_agrees}

pub acyclic_agrees : (view : Seen) → PointsWithin view.state.up (length view.ports)
    → JudgesAs acyclic_set acyclic_shape acyclic_rules view
acyclic_agrees view within =
    fixed_agrees 1 numbers_of_acyclic acyclic_label
    (are_numbers 1 numbers_of_acyclic acyclic_label refl (λ _. refl) (λ _. refl) (λ _. refl))
    acyclic_rules (rules_hold acyclic_set.rules) view within (λ own ports here.
    same_first (all_ports (port_in_numbers numbers_of_acyclic)
    (λ found. field_at 0 found == own.depth + 1 || field_at 0 found + 1 == own.depth)
    (is_beside own.depth) (λ port. ap (λ (b : Bool). port.label.depth == own.depth + 1 || b)
    (eqb_turned (port.label.depth + 1) own.depth)) ports)
    (same_first (ap (λ (sum : ℕ). nat_le sum 1)
    (sum_ports (port_in_numbers numbers_of_acyclic)
    (λ found. field_at 0 found + 1 == own.depth) (λ found. 1)
    (λ (port : ReadPort AcyclicLabel). if is_above own.depth port then 1 else 0)
    (λ port. refl) ports)) refl))
