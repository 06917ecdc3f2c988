-- The rule sets `tree` and `forest` judge as the schemes.
use Rattle.std.proofs.Common.{◌+◌, Bool, length, refl, ap}
use Rattle.std.specs.Prelude.{◌&&◌, ◌||◌, ◌==◌}
use Rattle.std.specs.Option.{is_some}
use Rattle.pls_labels.specs.Seen.{Seen}
use Rattle.pls_numbers.specs.laws.FixedLaws.{are_numbers}
use Rattle.pls_scheme.specs.Reading.{ReadPort, has_number}
use Rattle.pls_pointer.specs.Forest.{forest_label, forest_rules, forest_shape, numbers_of_forest}
use Rattle.pls_pointer.specs.Tree.{numbers_of_tree, tree_label, tree_rules, tree_shape}
use Rattle.pls_pointer.specs.declared.forest.ForestLabel.{ForestLabel}
use Rattle.pls_pointer.specs.declared.tree.TreeLabel.{TreeLabel}
use Rattle.pls_compile.specs.RuleMeaning.{field_at, rules_hold}
use Rattle.pls_builtin.specs.Builtin.{forest_set, tree_set}
use Rattle.pls_builtin.specs.Judges.{JudgesAs}
use Rattle.pls_builtin.proofs.Agreeing.{PointsWithin, port_in_numbers}
use Rattle.pls_builtin.proofs.AtPorts.{all_ports, at_target}
use Rattle.pls_builtin.proofs.Booleans.{same_first, weigh_is}
use Rattle.pls_builtin.proofs.FixedFields.{fixed_agrees}

pub tree_agrees : (view : Seen) → PointsWithin view.state.up (length view.ports)
    → JudgesAs tree_set tree_shape tree_rules view
tree_agrees view within =
    fixed_agrees 2 numbers_of_tree tree_label
    (are_numbers 2 numbers_of_tree tree_label refl (λ _. refl) (λ _. refl) (λ _. refl))
    tree_rules (rules_hold tree_set.rules) view within (λ own ports here.
    same_first (all_ports (port_in_numbers numbers_of_tree)
    (λ found. field_at 0 found == own.root)
    (has_number (λ (label : TreeLabel). label.root) own.root) (λ port. refl) ports)
    (same_first (ap (λ (b : Bool). b || (own.depth == 0 && view.id == own.root))
    (weigh_is (is_some view.state.up)))
    (same_first (at_target (port_in_numbers numbers_of_tree)
    (λ found. own.depth == field_at 1 found + 1)
    (λ (port : ReadPort TreeLabel). own.depth == port.label.depth + 1) (λ port. refl) ports
    view.state.up here) refl)))

pub forest_agrees : (view : Seen) → PointsWithin view.state.up (length view.ports)
    → JudgesAs forest_set forest_shape forest_rules view
forest_agrees view within =
    fixed_agrees 1 numbers_of_forest forest_label
    (are_numbers 1 numbers_of_forest forest_label refl (λ _. refl) (λ _. refl) (λ _. refl))
    forest_rules (rules_hold forest_set.rules) view within (λ own ports here.
    same_first (ap (λ (b : Bool). b || own.depth == 0) (weigh_is (is_some view.state.up)))
    (same_first (at_target (port_in_numbers numbers_of_forest)
    (λ found. own.depth == field_at 0 found + 1)
    (λ (port : ReadPort ForestLabel). own.depth == port.label.depth + 1) (λ port. refl) ports
    view.state.up here) refl))
