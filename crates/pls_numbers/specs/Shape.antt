-- Labels that are lists of numbers: which numbers a label is, which bits spell it, and what bits
-- say.
use Rattle.std.specs.Prelude.{◌≡◌, ◌↔◌, ℕ, Bool, if◌then◌else◌, List, Option, Some, None, option_map}
use Rattle.pls_numbers.specs.declared.kind.FieldKind.{FieldKind}
use Rattle.pls_numbers.specs.Numbers.{AreCoded, AreCodesOf, NumbersLeft, codes_of, left_in}

-- how labels are lists of numbers
pub record Shape (L : Type 0) : Type 1 where
  -- how the first numbers of a label are written; those behind them are in code
  pub kinds : List FieldKind
  -- the numbers of a label
  pub numbers : L → List ℕ
  -- what else is asked of it
  pub Proper : L → Type 0
  -- the label that has these numbers, if there is one
  pub of_numbers : List ℕ → Option L

-- numbers are a label exactly where they are those of a proper one
abbrev pub AreItsNumbers : {L : Type 0} → Shape L → Type 0
AreItsNumbers {L} shape = (list : List ℕ) (label : L)
    → (shape.of_numbers list ≡ Some label) ↔ ((list ≡ shape.numbers label) × shape.Proper label)

-- the bits are a label: its numbers in a code and nothing more, and it is proper
pub record IsSpelled {L : Type 0} (shape : Shape L) (code : ℕ → List Bool) (bits : List Bool)
    (label : L) : Type 0 where
  pub codes : AreCodesOf code shape.kinds (shape.numbers label) bits
  pub proper : shape.Proper label

-- the label can be written
pub record IsWritable {L : Type 0} (shape : Shape L) (label : L) : Type 0 where
  pub coded : AreCoded shape.kinds (shape.numbers label)
  pub proper : shape.Proper label

-- the bits of a label in a code
abbrev pub spelling : {L : Type 0} → Shape L → (ℕ → List Bool) → L → List Bool
spelling shape code label = codes_of code shape.kinds (shape.numbers label)

-- what numbers say, where nothing stands behind them
abbrev pub if_clean : {L : Type 0} → (List ℕ → Option L) → NumbersLeft → Option L
if_clean of_numbers left = if left.clean then of_numbers left.numbers else None

-- what bits say, by what takes a code off their front
abbrev pub said_by : {L : Type 0} → Shape L → (List Bool → Option (ℕ × List Bool)) → List Bool
    → Option L
said_by shape takes bits = if_clean shape.of_numbers (left_in takes shape.kinds bits)

-- the bits of the label that some bits are in one code, in another
abbrev pub recoded : {L : Type 0} → Shape L → (List Bool → Option (ℕ × List Bool))
    → (ℕ → List Bool) → List Bool → Option (List Bool)
recoded shape takes code bits = option_map (spelling shape code) (said_by shape takes bits)
