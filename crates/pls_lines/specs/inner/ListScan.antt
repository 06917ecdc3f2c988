-- How a reader moves over the items of a list.
use Rattle.std.specs.Prelude.{◌≡◌, ℕ, List, [], ◌∷◌, ◌++◌, map}
use Rattle.pls_lines.specs.Lines.{Left, Passes}
use Rattle.pls_lines.specs.ListPart.{Begun, Remains}

-- the line says an item that may follow these
pub record MayFollow {X : Type 0} (Fits : X → Type 0) (written : X → List ℕ)
    (Are : List X → Type 0) (front : List X) (line : List ℕ) : Type 0 where
  pub value : X
  pub fits : Fits value
  pub is : line ≡ written value
  pub begun : Begun Are (front ++ value ∷ [])

-- the reader has passed one item, and what is counted of the items before it goes over into what is
-- counted with it
pub record PassesItem {X S : Type 0} (Fits : X → Type 0) (written : X → List ℕ)
    (Are : List X → Type 0) (tally : List X → S) (old new : Left) (before now : S) : Type 0 where
  pub value : X
  pub fits : Fits value
  pub passed : Passes old new (written value ∷ [])
  pub begun : (front : List X) → Begun Are front → before ≡ tally front
      → Begun Are (front ++ value ∷ [])
  pub counted : (front : List X) → Begun Are front → before ≡ tally front
      → now ≡ tally (front ++ value ∷ [])

-- the reader has passed items that begin a list, and this is counted of them
pub record PassesItems {X S : Type 0} (written : X → List ℕ) (Are : List X → Type 0)
    (tally : List X → S) (old new : Left) (kept : S) : Type 0 where
  pub items : List X
  pub begun : Begun Are items
  pub passed : Passes old new (map written items)
  pub counted : kept ≡ tally items

-- the reader has passed items that begin a list, this is counted of them, and these lines are kept
pub record KeepsItems {X S L : Type 0} (written : X → List ℕ) (Are : List X → Type 0)
    (tally : List X → S) (line : X → L) (old new : Left) (kept : S) (list : List L) : Type 0 where
  pub items : List X
  pub begun : Begun Are items
  pub passed : Passes old new (map written items)
  pub counted : kept ≡ tally items
  pub are : list ≡ map line items

-- the lines are those of the first items, and the text says the others, and then `end`
pub record LeavesItems {X L : Type 0} (Fits : X → Type 0) (written : X → List ℕ) (line : X → L)
    (items : List X) (text : List ℕ) (list : List L) : Type 0 where
  pub more : List X
  pub are : map line items ≡ list ++ map line more
  pub remains : Remains Fits written text more
