-- The rule set `spt` judges as the scheme.
use Rattle.std.proofs.Common.{◌≡◌, ◌∙◌, ℕ, ◌+◌, Bool, true, false, List, length, map, Option, Some, None, refl, sym}
use Rattle.std.specs.Prelude.{slice_get, option_and_then, nat_le, ◌&&◌, ◌||◌, ◌==◌}
use Rattle.std.specs.Option.{is_some, option_map_or}
use Rattle.std.proofs.lemmas.List.Folds.{list_all-map}
use Rattle.std.proofs.lemmas.Option.{slice_get-map}
use Rattle.pls_bits.specs.Bytes.{weigh}
use Rattle.pls_labels.specs.Seen.{Seen}
use Rattle.pls_numbers.specs.laws.FixedLaws.{are_numbers}
use Rattle.pls_scheme.specs.Reading.{ReadPort, has_number}
use Rattle.pls_pointer.specs.declared.tree.TreeLabel.{TreeLabel}
use Rattle.pls_distance.specs.Spt.{is_reached_by, numbers_of_spt, spt_label, spt_rules, spt_shape, tree_port}
use Rattle.pls_distance.specs.declared.spt.SptLabel.{SptLabel}
use Rattle.pls_compile.specs.RuleMeaning.{field_at, rules_hold, weight_at}
use Rattle.pls_compile.proofs.Lists.{found_within}
use Rattle.pls_builtin.specs.Builtin.{spt_set}
use Rattle.pls_builtin.specs.Judges.{JudgesAs}
use Rattle.pls_builtin.proofs.Agreeing.{PointsWithin, port_in_numbers}
use Rattle.pls_builtin.proofs.AtPorts.{all_ports, at_target}
use Rattle.pls_builtin.proofs.Booleans.{same_first}
use Rattle.pls_builtin.proofs.FixedFields.{fixed_agrees}

-- the node points at a port, or it is the root, at depth 0 and distance 0
starts : (points deep far root : Bool) → (weigh points == 1 || ((deep && far) && root))
    ≡ ((points || (deep && root)) && (points || far))
starts true deep far root = refl
starts false true true true = refl
starts false true true false = refl
starts false true false true = refl
starts false true false false = refl
starts false false far root = refl

-- one question about the port that is pointed at, or two
both_at_target : (deep : ReadPort TreeLabel → Bool) (far : ReadPort SptLabel → Bool)
    (ports : List (ReadPort SptLabel)) (up : Option ℕ) → PointsWithin up (length ports)
    → option_map_or (λ (port : ReadPort SptLabel). deep (tree_port port) && far port)
    (option_and_then (slice_get ports) up) true
    ≡ (option_map_or deep (option_and_then (slice_get (map tree_port ports)) up) true
    && option_map_or far (option_and_then (slice_get ports) up) true)
both_at_target deep far ports None within = refl
both_at_target deep far ports (Some place) within =
    let found = found_within ports place within in
    rw (slice_get-map tree_port ports place, found.1) refl

pub spt_agrees : (view : Seen) → PointsWithin view.state.up (length view.ports)
    → JudgesAs spt_set spt_shape spt_rules view
spt_agrees view within =
    fixed_agrees 3 numbers_of_spt spt_label
    (are_numbers 3 numbers_of_spt spt_label refl (λ _. refl) (λ _. refl) (λ _. refl))
    spt_rules (rules_hold spt_set.rules) view within (λ own ports here.
    same_first (all_ports (port_in_numbers numbers_of_spt)
    (λ found. field_at 0 found == own.root)
    (λ (port : ReadPort SptLabel). port.label.root == own.root) (λ port. refl) ports
    ∙ sym (list_all-map (has_number (λ (label : TreeLabel). label.root) own.root) tree_port ports))
    (same_first (starts (is_some view.state.up) (own.depth == 0) (own.dist == 0)
    (view.id == own.root))
    (same_first (at_target (port_in_numbers numbers_of_spt)
    (λ found. own.depth == field_at 1 found + 1
    && own.dist == field_at 2 found + weight_at found)
    (λ (port : ReadPort SptLabel). own.depth == port.label.depth + 1
    && own.dist == port.label.dist + port.weight) (λ port. refl) ports view.state.up here
    ∙ both_at_target (λ port. own.depth == port.label.depth + 1)
    (λ port. own.dist == port.label.dist + port.weight) ports view.state.up here)
    (same_first (all_ports (port_in_numbers numbers_of_spt)
    (λ found. nat_le own.dist (field_at 2 found + weight_at found))
    (is_reached_by own.dist) (λ port. refl) ports) refl))))
