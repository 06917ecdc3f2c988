-- What a rule set means on a view. A label that is read is the list of its fields' values.
use Rattle.std.specs.Prelude.{ℕ, zero, suc, ◌+◌, ◌==◌, nat_le, nat_lt, Bool, true, false, ◌&&◌, ◌||◌, not, if◌then◌else◌, List, [], ◌∷◌, map, length, get_or, slice_get, Option, Some, None}
use Rattle.std.specs.Option.{is_some}
use Rattle.pls_configuration.specs.declared.verdict.Verdict.{Verdict}
use Rattle.pls_bits.specs.Bytes.{weigh}
use Rattle.pls_labels.specs.Seen.{Seen}
use Rattle.pls_numbers.specs.Fixed.{fields_shape}
use Rattle.pls_scheme.specs.Basic.{verdict_by}
use Rattle.pls_scheme.specs.Reading.{Read, ReadPort, is_pointer, target}
use Rattle.pls_rules.specs.Formula.{Formula, Term, Eq, Lt, Le, Same, Both, Either, Not, All, Any, Number, Id, Mark, Num, Degree, Pointed, My, Up, UpWeight, Nb, NbWeight, NbUp, Add, Sum}
use Rattle.pls_rules.specs.RuleSet.{Rules, kinds_of}

-- what a node sees, with each label read as the list of its fields' values
abbrev pub Sight : Type 0
Sight = Read (List ℕ)

-- the field with this number
abbrev pub field_of : ℕ → List ℕ → ℕ
field_of field label = get_or label field 0

-- the field with this number of the label at a port, and 0 where there is no port
abbrev pub field_at : ℕ → Option (ReadPort (List ℕ)) → ℕ
field_at field None = 0
field_at field (Some port) = field_of field port.label

-- the weight of a port, and 0 where there is none
abbrev pub weight_at : Option (ReadPort (List ℕ)) → ℕ
weight_at None = 0
weight_at (Some port) = port.weight

-- the port of the innermost quantifier, where the ports of the quantifiers are these, the innermost
-- first
abbrev pub innermost : Sight → List ℕ → Option (ReadPort (List ℕ))
innermost view [] = None
innermost view (port ∷ others) = slice_get view.ports port

-- the port of the innermost quantifier is the one that the node points at
abbrev pub is_pointed_at : Sight → List ℕ → Bool
is_pointed_at view [] = false
is_pointed_at view (port ∷ others) = is_pointer view.state.up port

-- both hold, or neither does
abbrev pub agree : Bool → Bool → Bool
agree true other = other
agree false other = not other

-- a test holds at each of so many ports
abbrev pub at_each : (ℕ → Bool) → ℕ → Bool
at_each test zero = true
at_each test (suc port) = at_each test port && test port

-- a test holds at some of so many ports
abbrev pub at_some : (ℕ → Bool) → ℕ → Bool
at_some test zero = false
at_some test (suc port) = at_some test port || test port

-- the sum of a number over those of so many ports at which a test holds
abbrev pub sum_where : (ℕ → Bool) → (ℕ → ℕ) → ℕ → ℕ
sum_where test number zero = 0
sum_where test number (suc port) =
    sum_where test number port + (if test port then number port else 0)

abbrev mutual
  -- whether a formula holds on a view, inside quantifiers at these ports, the innermost first
  pub holds : Sight → List ℕ → Formula ℕ → Bool
  holds view ports (Eq a b) = value view ports a == value view ports b
  holds view ports (Lt a b) = nat_lt (value view ports a) (value view ports b)
  holds view ports (Le a b) = nat_le (value view ports a) (value view ports b)
  holds view ports (Same a b) = agree (holds view ports a) (holds view ports b)
  holds view ports (Both a b) = holds view ports a && holds view ports b
  holds view ports (Either a b) = holds view ports a || holds view ports b
  holds view ports (Not a) = not (holds view ports a)
  holds view ports (All a) = at_each (λ port. holds view (port ∷ ports) a) (length view.ports)
  holds view ports (Any a) = at_some (λ port. holds view (port ∷ ports) a) (length view.ports)

  -- the value of a term on a view, inside quantifiers at these ports, the innermost first
  pub value : Sight → List ℕ → Term ℕ → ℕ
  value view ports (Number n) = n
  value view ports Id = view.id
  value view ports Mark = view.state.mark
  value view ports Num = view.state.num
  value view ports Degree = length view.ports
  value view ports Pointed = weigh (is_some view.state.up)
  value view ports (My f) = field_of f view.own
  value view ports (Up f) = field_at f (target view)
  value view ports UpWeight = weight_at (target view)
  value view ports (Nb f) = field_at f (innermost view ports)
  value view ports NbWeight = weight_at (innermost view ports)
  value view ports NbUp = weigh (is_pointed_at view ports)
  value view ports (Add a b) = value view ports a + value view ports b
  value view ports (Sum a b) = sum_where (λ port. holds view (port ∷ ports) a)
      (λ port. value view (port ∷ ports) b) (length view.ports)

-- which of the rules hold
abbrev pub rules_hold : List (Formula ℕ) → Sight → List Bool
rules_hold rules view = map (holds view []) rules

-- the meaning of a rule set: the verdict on a view by its fields and its rules, by what takes a
-- code off the front of bits
abbrev pub meaning : (List Bool → Option (ℕ × List Bool)) → Rules → Seen → Verdict
meaning takes set view =
    verdict_by (fields_shape (kinds_of set.fields)) (rules_hold set.rules) takes view
