-- Numbers as words of a line.
use Rattle.std.proofs.Common.{◌≡◌, ◌≢◌, ℕ, ◌+◌, ◌%◌, ◌<◌, ◌^◌, List, [], ◌∷◌, ◌++◌, decimal, sym, ◌∙◌, arith}
use Rattle.std.proofs.lemmas.Fmt.{decimal_by_steps, decimal_injective, decimal_is_IsNumeral}
use Rattle.std.specs.Str.Parse.{digits_value}
use Rattle.std.proofs.lemmas.List.{append_cancel_left}
use Rattle.pls_lines.specs.Plain.{LacksItem}
use Rattle.pls_lines.specs.Worded.{IsWord}
use Rattle.pls_lines.specs.laws.Cuts.{each-append, same_first}

-- a number has no byte below its digits
pub decimal_lacks : (byte number : ℕ) → byte < 48 → number < 2 ^ 64 → LacksItem byte (decimal number)
decimal_lacks byte number low small =
    decimal_by_steps (λ n ds. LacksItem byte ds)
    (λ n below. (omega arith, tt))
    (λ n ds above front. each-append (λ other. other ≢ byte) ds ((48 + n % 10) ∷ []) front
    (omega arith, tt))
    number small

-- two numbers with a space behind them are one where their texts are, and so is what follows
pub same_number : (a b : ℕ) (x y : List ℕ) → a < 2 ^ 64 → b < 2 ^ 64
    → decimal a ++ 32 ∷ x ≡ decimal b ++ 32 ∷ y → (a ≡ b) × (x ≡ y)
same_number a b x y small_a small_b e =
    let cut = same_first 32 (decimal a) (decimal b) x y
    (decimal_lacks 32 a (omega arith) small_a) (decimal_lacks 32 b (omega arith) small_b) e in
    (decimal_injective a b small_a small_b cut.0, cut.1)

-- what follows a word and a space is told by the text
pub behind_word : (word text x y : List ℕ) → text ≡ word ++ 32 ∷ x → text ≡ word ++ 32 ∷ y → x ≡ y
behind_word word text x y p q = let e = append_cancel_left word (32 ∷ x) (32 ∷ y) (sym p ∙ q) in cc

-- what follows a number and a space is told by the text
pub behind_number : (a b : ℕ) (text x y : List ℕ) → a < 2 ^ 64 → b < 2 ^ 64
    → text ≡ decimal a ++ 32 ∷ x → text ≡ decimal b ++ 32 ∷ y → x ≡ y
behind_number a b text x y small_a small_b p q = (same_number a b x y small_a small_b (sym p ∙ q)).1

-- a number is a word, and says itself
pub number_word : (number : ℕ) → number < 2 ^ 64 → IsWord (decimal number)
number_word number small = record {
  plain = decimal_lacks 10 number (omega arith) small;
  whole = decimal_lacks 32 number (omega arith) small;
}

pub number_said : (number : ℕ) → number < 2 ^ 64 → digits_value 10 (decimal number) ≡ number
number_said number small = (decimal_is_IsNumeral number small).1
