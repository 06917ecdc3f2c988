-- The rule set `count` judges as the scheme.
use Rattle.std.proofs.Common.{◌≡◌, ◌∙◌, ℕ, ◌+◌, Bool, true, false, List, [], ◌∷◌, length, refl, sym, ap, arith}
use Rattle.std.specs.Prelude.{sum_by, filter, if◌then◌else◌, ◌&&◌, ◌||◌, ◌==◌}
use Rattle.std.proofs.lemmas.List.Sums.{sum_by-cons}
use Rattle.pls_labels.specs.Seen.{Seen}
use Rattle.pls_numbers.specs.laws.FixedLaws.{are_numbers}
use Rattle.pls_scheme.specs.Reading.{ReadPort}
use Rattle.pls_facts.proofs.Sums.{eqb_turned}
use Rattle.pls_leader.specs.Count.{count_label, count_rules, count_shape, is_own_child, is_parent_above, names_root_and_total, numbers_of_count}
use Rattle.pls_leader.specs.declared.count.CountLabel.{CountLabel}
use Rattle.pls_compile.specs.RuleMeaning.{agree, field_at, rules_hold}
use Rattle.pls_builtin.specs.Builtin.{count_set}
use Rattle.pls_builtin.specs.Judges.{JudgesAs}
use Rattle.pls_builtin.proofs.Agreeing.{PointsWithin, port_in_numbers}
use Rattle.pls_builtin.proofs.AtPorts.{all_ports, some_port, sum_ports}
use Rattle.pls_builtin.proofs.Booleans.{agree_is, same_first}
use Rattle.pls_builtin.proofs.FixedFields.{fixed_agrees}

-- the sum over those that pass a test
sum_filtered : {X : Type 0} (f : X → ℕ) (test : X → Bool) (xs : List X)
    → sum_by f (filter test xs) ≡ sum_by (λ x. if test x then f x else 0) xs
sum_filtered f test [] = refl
sum_filtered {X} f test (x ∷ xs) =
    by (test x) (filter test xs)
    ∙ ap (λ (sum : ℕ). (if test x then f x else 0) + sum) (sum_filtered f test xs)
    ∙ sym (sum_by-cons (λ x. if test x then f x else 0) x xs)
  where
    by : (passes : Bool) (others : List X) → sum_by f (if passes then x ∷ others else others)
        ≡ (if passes then f x else 0) + sum_by f others
    by true others = sum_by-cons f x others
    by false others = omega arith

module _ (id : ℕ) (own : CountLabel) (ports : List (ReadPort CountLabel)) where
  -- the neighbour is the parent, and one less deep
  above : (port : ReadPort CountLabel)
      → (port.label.own == own.parent && port.label.depth + 1 == own.depth)
      ≡ is_parent_above own port
  above port = ap (λ (b : Bool). port.label.own == own.parent && b)
      (eqb_turned (port.label.depth + 1) own.depth)

  -- the size of a neighbour whose parent is the node
  child : (port : ReadPort CountLabel)
      → (if port.label.parent == id then port.label.size else 0)
      ≡ (if is_own_child id port then port.label.size else 0)
  child port = ap (λ (b : Bool). if b then port.label.size else 0)
      (eqb_turned port.label.parent id)

pub count_agrees : (view : Seen) → PointsWithin view.state.up (length view.ports)
    → JudgesAs count_set count_shape count_rules view
count_agrees view within =
    fixed_agrees 6 numbers_of_count count_label
    (are_numbers 6 numbers_of_count count_label refl (λ _. refl) (λ _. refl) (λ _. refl))
    count_rules (rules_hold count_set.rules) view within (λ own ports here.
    same_first (all_ports (port_in_numbers numbers_of_count)
    (λ found. field_at 0 found == own.root && field_at 5 found == own.total)
    (names_root_and_total own) (λ port. refl) ports)
    (same_first refl
    (same_first (ap (agree (own.depth == 0)) (eqb_turned own.root view.id)
    ∙ agree_is (own.depth == 0) (view.id == own.root))
    (same_first refl
    (same_first (ap (λ (b : Bool). own.depth == 0 || b)
    (some_port (port_in_numbers numbers_of_count)
    (λ found. field_at 1 found == own.parent && field_at 3 found + 1 == own.depth)
    (is_parent_above own) (above view.id own ports) ports))
    (same_first (ap (λ (sum : ℕ). own.size == sum + 1)
    (sum_ports (port_in_numbers numbers_of_count)
    (λ found. field_at 2 found == view.id) (λ found. field_at 4 found)
    (λ (port : ReadPort CountLabel). if is_own_child view.id port then port.label.size else 0)
    (child view.id own ports) ports
    ∙ sym (sum_filtered (λ (port : ReadPort CountLabel). port.label.size)
    (is_own_child view.id) ports))) refl))))))
