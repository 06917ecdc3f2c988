-- What instructions put on the stack.
use Rattle.std.proofs.Common.{◌≡◌, ℕ, ◌-◌, ◌^◌, ◌<◌, Bool, true, false, List, [], ◌∷◌, length, Option, Some, None, refl, sym, ap, ◌∙◌, arith}
use Rattle.std.specs.Prelude.{slice_get, ◌==◌, ◌&&◌, ◌||◌, not, if◌then◌else◌}
use Rattle.std.proofs.lemmas.Option.{slice_get-get_or}
use Rattle.pls_bits.specs.Bytes.{weigh}
use Rattle.pls_scheme.specs.Reading.{ReadPort}
use Rattle.pls_compile.specs.Readable.{IsLabel, IsPort}
use Rattle.pls_compile.specs.RuleMeaning.{Sight, agree, field_at, field_of, innermost}
use Rattle.pls_compile.specs.RuleMachine.{MachineState, put, put_above, put_beside, put_field, put_if_port, second_if_one}
use Rattle.pls_compile.proofs.Lists.{found_within}
use Rattle.pls_compile.proofs.Values.{weigh_small}

-- what is put on the stack for tests
pub weigh_fits : (b : Bool) → weigh b < 2 ^ 128
weigh_fits b = omega (arith, weigh_small b)

pub both_weighs : (a b : Bool) → weigh (weigh a == 1 && weigh b == 1) ≡ weigh (a && b)
both_weighs true true = refl
both_weighs true false = refl
both_weighs false true = refl
both_weighs false false = refl

pub either_weighs : (a b : Bool) → weigh (weigh a == 1 || weigh b == 1) ≡ weigh (a || b)
either_weighs true true = refl
either_weighs true false = refl
either_weighs false true = refl
either_weighs false false = refl

pub same_weighs : (a b : Bool) → weigh (weigh a == weigh b) ≡ weigh (agree a b)
same_weighs true true = refl
same_weighs true false = refl
same_weighs false true = refl
same_weighs false false = refl

pub not_weighs : (a : Bool) → 1 - weigh a ≡ weigh (not a)
not_weighs true = refl
not_weighs false = refl

pub second_weighs : (a : Bool) (n : ℕ) → second_if_one (weigh a) n ≡ (if a then n else 0)
second_weighs true n = refl
second_weighs false n = refl

-- what puts a field puts it where the label has it
pub field_puts : (count field : ℕ) (label : List ℕ) (state : MachineState) → IsLabel count label
    → field < count → put_field (slice_get label field) state ≡ put (field_of field label) state
field_puts count field label state is within =
    let there : field < length label = omega (arith, is.long) in
    ap (λ (found : Option ℕ). put_field found state) (slice_get-get_or label field 0 there)

pub above_puts : (count field : ℕ) (port : Option (ReadPort (List ℕ))) (state : MachineState)
    → ((found : ReadPort (List ℕ)) → port ≡ Some found → IsPort count found) → field < count
    → put_above field port state ≡ put (field_at field port) state
above_puts count field None state fits within = refl
above_puts count field (Some port) state fits within =
    field_puts count field port.label state (fits port refl).label within

pub beside_puts : (count field : ℕ) (port : Option (ReadPort (List ℕ))) (state : MachineState)
    → (found : ReadPort (List ℕ)) → port ≡ Some found → IsPort count found → field < count
    → put_beside field port state ≡ put (field_at field port) state
beside_puts count field port state found is fits within =
    ap (λ (port : Option (ReadPort (List ℕ))). put_beside field port state) is
    ∙ field_puts count field found.label state fits.label within
    ∙ ap (λ (port : Option (ReadPort (List ℕ))). put (field_at field port) state) (sym is)

pub if_port_puts : (number : ℕ) (port : Option (ReadPort (List ℕ))) (state : MachineState)
    → (found : ReadPort (List ℕ)) → port ≡ Some found
    → put_if_port number port state ≡ put number state
if_port_puts number port state found is =
    ap (λ (port : Option (ReadPort (List ℕ))). put_if_port number port state) is

-- the ports of the quantifiers round an expression, and whether there is one
abbrev pub IsRound : Sight → Bool → List ℕ → Type 0
IsRound view inside [] = inside ≡ false
IsRound view inside (port ∷ ports) = port < length view.ports

pub innermost_there : (view : Sight) (inside : Bool) (ports : List ℕ) → IsRound view inside ports
    → inside ≡ true → (port : ReadPort (List ℕ)) × (innermost view ports ≡ Some port)
innermost_there view inside [] round is = absurd (cc)
innermost_there view inside (port ∷ ports) round is = found_within view.ports port round

-- what is counted is no greater
pub part_fits : (test : Bool) (number : ℕ) → number < 2 ^ 128
    → (if test then number else 0) < 2 ^ 128
part_fits true number small = small
part_fits false number small = omega arith
