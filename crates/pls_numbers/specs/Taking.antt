-- Items that stand in front of numbers, and the numbers behind them.
use Rattle.std.specs.Prelude.{◌≡◌, ℕ, zero, suc, ◌++◌, Bool, ◌&&◌, List, [], ◌∷◌, Option, Some, None, option_map, option_and_then}
use Rattle.std.specs.Option.{is_some, option_map_or}
use Rattle.pls_numbers.specs.Numbers.{NumbersLeft}

-- one item more in front of those that were taken off
abbrev pub with_item : {X : Type 0} → X → List X × List ℕ → List X × List ℕ
with_item item taken = (item ∷ taken.0, taken.1)

-- so many items that stand in front, and the numbers behind them
abbrev pub many_off : {X : Type 0} → (List ℕ → Option (X × List ℕ)) → ℕ → List ℕ
    → Option (List X × List ℕ)
many_off off zero list = Some ([], list)
many_off {X} off (suc count) list = option_and_then (λ (first : X × List ℕ).
    option_map (with_item first.0) (many_off off count first.1)) (off list)

-- what was taken off, where no number is behind it
abbrev pub if_whole : {X : Type 0} → X × List ℕ → Option X
if_whole (x, []) = Some x
if_whole (x, number ∷ numbers) = None

-- so many items that the numbers are, and nothing more
abbrev pub items_in : {X : Type 0} → (List ℕ → Option (X × List ℕ)) → ℕ → List ℕ
    → Option (List X)
items_in off count list = option_and_then if_whole (many_off off count list)

-- items are taken off exactly where the numbers of a proper one stand in front
pub record IsExact {X : Type 0} (off : List ℕ → Option (X × List ℕ)) (numbers : X → List ℕ)
    (Proper : X → Type 0) : Type 0 where
  pub read : (x : X) (rest : List ℕ) → Proper x → off (numbers x ++ rest) ≡ Some (x, rest)
  pub only : (list : List ℕ) (x : X) (rest : List ℕ) → off list ≡ Some (x, rest)
      → (list ≡ numbers x ++ rest) × Proper x

-- the item stands in front of what was left, and what is left now stands behind it
pub record IsTaken {X : Type 0} (off : List ℕ → Option (X × List ℕ)) (x : X) (old new : NumbersLeft)
    : Type 0 where
  pub front : off old.numbers ≡ Some (x, new.numbers)
  pub same : old.clean ≡ new.clean

-- so many items are left and nothing more
abbrev pub are_items : {X : Type 0} → (List ℕ → Option (X × List ℕ)) → ℕ → NumbersLeft → Bool
are_items off count left = left.clean && is_some (items_in off count left.numbers)

-- so many items that stand in front, or fewer where what comes next is none
abbrev pub items_off : {X : Type 0} → (List ℕ → Option (X × List ℕ)) → ℕ → List ℕ → List X
items_off off zero list = []
items_off {X} off (suc count) list = option_map_or (λ (first : X × List ℕ).
    first.0 ∷ items_off off count first.1) (off list) []
