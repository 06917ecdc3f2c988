-- Parts that are any items of a kind under a heading of one word.
use Rattle.std.specs.Prelude.{◌≢◌, ℕ, List, length, codes}
use Rattle.pls_streams.specs.Steps.{capped}
use Rattle.pls_lines.specs.Plain.{LacksItem}

-- the word can stand alone in the first line of a part
pub record IsHeadingWord (word : List ℕ) : Type 0 where
  pub plain : LacksItem 10 word
  pub other : word ≢ codes "end"

-- how many items there are, or 2^64 - 1 where that is less
abbrev pub counted : {X : Type 0} → List X → ℕ
counted items = capped (length items)
