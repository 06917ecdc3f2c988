-- Labels that lie in one list of words, each from a word of its own on.
use Rattle.std.specs.Prelude.{ℕ, ◌≡◌, ◌+◌, ◌*◌, ◌^◌, ◌≤◌, Bool, List, length, sum_by}
use Rattle.std.specs.List.{All}
use Rattle.pls_bits.specs.Words.{bits_of}
use Rattle.pls_labels.specs.declared.label_room.Slot.{Slot}

-- the label of a slot
abbrev pub label_of_slot : List ℕ → Slot → List Bool
label_of_slot words slot = bits_of words (64 * slot.at) slot.len

-- a slot lies within the words
abbrev pub LiesIn : List ℕ → Slot → Type 0
LiesIn words slot = 64 * slot.at + slot.len ≤ 64 * length words

-- how many bits the labels of some slots have together
abbrev pub bits_of_slots : List Slot → ℕ
bits_of_slots slots = sum_by (λ (slot : Slot). slot.len) slots

-- words, and slots in them that have so many bits together
pub record IsRoom (words : List ℕ) (slots : List Slot) (total : ℕ) : Type 0 where
  pub within : All (LiesIn words) slots
  pub sum : total ≡ bits_of_slots slots
  pub few : total ≤ 64 * length words

-- words of which so many more are put without memory: there is room for them, and all are 2 ^ 56 at
-- most
pub record IsFree (words : List ℕ) (capacity free : ℕ) : Type 0 where
  pub fits : length words + free ≤ capacity
  pub small : length words + free ≤ 2 ^ 56
