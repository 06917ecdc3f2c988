-- What stands at the front of a text, read from the left.
use Rattle.std.specs.Prelude.{ℕ, ◌==◌, List, [], ◌∷◌, length, Option, Some, None, option_map, if◌then◌else◌}
use Rattle.std.specs.Borrow.{Bor}

-- something at the front of a text, and what follows it
pub record Front (A : Type 0) : Type 0 where
  pub item : A
  pub rest : List ℕ

-- an item at the front of a text, with what follows it
abbrev pub followed : {A : Type 0} → A → List ℕ → Front A
followed item rest = record { item = item; rest = rest }

-- what follows a word at the front of a text
abbrev pub after : List ℕ → List ℕ → Option (List ℕ)
after [] text = Some text
after (character ∷ word) [] = None
after (character ∷ word) (other ∷ text) = if character == other then after word text else None

-- the item that a word stands for, where the word is at the front of a text
abbrev pub word_front : {A : Type 0} → A → List ℕ → List ℕ → Option (Front A)
word_front item word text = option_map (followed item) (after word text)

-- what a call found, which lends what follows
abbrev pub found_front : {A : Type 0} → A × Bor (List ℕ) → Front A
found_front found = followed found.0 found.1.now

-- what is found where nothing follows
abbrev pub whole_item : {A : Type 0} → Front A → Option A
whole_item front = if length front.rest == 0 then Some front.item else None
