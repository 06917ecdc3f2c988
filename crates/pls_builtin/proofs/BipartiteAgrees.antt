-- The rule set `bipartite` judges as the scheme.
use Rattle.std.proofs.Common.{◌≡◌, ℕ, Bool, true, false, List, [], ◌∷◌, length, Option, option_map, refl, arith}
use Rattle.std.specs.Prelude.{not, ◌==◌}
use Rattle.pls_bits.specs.Bytes.{weigh}
use Rattle.pls_labels.specs.Seen.{Seen}
use Rattle.pls_colour.specs.Bipartite.{bipartite_rules, colour_of_numbers, colour_shape, differs_from, numbers_of_colour}
use Rattle.pls_builtin.specs.Builtin.{bipartite_set}
use Rattle.pls_numbers.specs.declared.kind.FieldKind.TheVariants.{Bit}
use Rattle.pls_numbers.specs.Fixed.{fields_shape, so_many}
use Rattle.pls_numbers.specs.Numbers.{NumbersLeft, left_in, left_within}
use Rattle.pls_numbers.specs.Shape.{if_clean, said_by}
use Rattle.pls_numbers.specs.laws.FixedLaws.{so_many-none}
use Rattle.pls_facts.specs.Bipartite.{differ}
use Rattle.pls_compile.specs.RuleMeaning.{field_at, rules_hold}
use Rattle.pls_builtin.specs.Judges.{JudgesAs}
use Rattle.pls_builtin.proofs.Agreeing.{PointsWithin, agrees, port_in_numbers}
use Rattle.pls_builtin.proofs.AtPorts.{all_ports}
use Rattle.pls_builtin.proofs.Booleans.{same_first}

-- a number behind others is no colour, and one bit is
colour_left : (bit : Bool) (numbers : List ℕ) (clean : Bool)
    → if_clean (so_many 1) (record { numbers = weigh bit ∷ numbers; clean = clean })
    ≡ option_map numbers_of_colour
    (if_clean colour_of_numbers (record { numbers = weigh bit ∷ numbers; clean = clean }))
colour_left true [] true = refl
colour_left false [] true = refl
colour_left true (number ∷ numbers) true =
    so_many-none 1 (weigh true ∷ number ∷ numbers) (λ same. omega (arith, same))
colour_left false (number ∷ numbers) true =
    so_many-none 1 (weigh false ∷ number ∷ numbers) (λ same. omega (arith, same))
colour_left bit numbers false = refl

-- one bit, read in both ways
one_bit : (takes : List Bool → Option (ℕ × List Bool)) (bits : List Bool)
    → said_by (fields_shape (Bit ∷ [])) takes bits
    ≡ option_map numbers_of_colour (said_by colour_shape takes bits)
unfolding left_in
one_bit takes [] = refl
one_bit takes (bit ∷ bits) =
    let left : NumbersLeft = left_within takes [] (length bits) bits in
    colour_left bit left.numbers left.clean

differs : (one other : Bool) → not (weigh one == weigh other) ≡ differ other one
differs true true = refl
differs true false = refl
differs false true = refl
differs false false = refl

pub bipartite_agrees : (view : Seen) → PointsWithin view.state.up (length view.ports)
    → JudgesAs bipartite_set colour_shape bipartite_rules view
bipartite_agrees view within takes =
    agrees numbers_of_colour (said_by colour_shape takes)
    (said_by (fields_shape (Bit ∷ [])) takes) (one_bit takes)
    bipartite_rules (rules_hold bipartite_set.rules) view within (λ own ports here.
    same_first (all_ports (port_in_numbers numbers_of_colour)
    (λ found. not (field_at 0 found == weigh own.colour)) (differs_from own.colour)
    (λ port. differs port.label.colour own.colour) ports) refl)
