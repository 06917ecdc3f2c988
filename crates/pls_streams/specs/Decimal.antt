-- Numbers as digits.
use Rattle.std.specs.Prelude.{◌≡◌, ◌≢◌, ℕ, ◌≤◌, List, decimal}

-- the text is the decimal spelling of the number, without leading zeros
abbrev pub IsDecimal : List ℕ → ℕ → Type 0
IsDecimal text number = text ≡ decimal number

-- the text is the decimal spelling of no number up to `most`
abbrev pub IsNoDecimal : List ℕ → ℕ → Type 0
IsNoDecimal text most = (number : ℕ) → number ≤ most → text ≢ decimal number
