-- A part with a heading, a line for each item of a list, and `end`.
use Rattle.std.specs.Prelude.{◌≡◌, ℕ, List, [], ◌∷◌, ◌++◌, map, All, codes}
use Rattle.pls_lines.specs.Text.{text_of}
use Rattle.pls_lines.specs.Lines.{Left, Passes}
use Rattle.pls_lines.specs.Frame.{part_lines, IsFramed}

-- the lines of the items, and `end`
abbrev pub to_end : {X : Type 0} → (X → List ℕ) → List X → List (List ℕ)
to_end written items = map written items ++ codes "end" ∷ []

-- the lines of a part with this heading line and these items
abbrev pub list_lines : {X : Type 0} → List ℕ → (X → List ℕ) → List X → List (List ℕ)
list_lines heading written items = part_lines heading (map written items)

-- the text of a part with this heading line and these items
abbrev pub list_text : {X : Type 0} → List ℕ → (X → List ℕ) → List X → List ℕ
list_text heading written items = text_of (list_lines heading written items)

-- the lines are those of a list that can be a part's
pub record AreItemLines {X : Type 0} (written : X → List ℕ) (Are : List X → Type 0)
    (body : List (List ℕ)) : Type 0 where
  pub items : List X
  pub are : Are items
  pub is : body ≡ map written items

-- the lines are a part with a list that can be a part's, under a heading of this kind
abbrev pub IsListPart : {X : Type 0} → (List ℕ → Type 0) → (X → List ℕ) → (List X → Type 0)
    → List (List ℕ) → Type 0
IsListPart Heading written Are lines = IsFramed Heading (AreItemLines written Are) lines

-- the items begin a list that can be a part's
pub record Begun {X : Type 0} (Are : List X → Type 0) (front : List X) : Type 0 where
  pub more : List X
  pub are : Are (front ++ more)

-- there is a heading, each list that can be a part's has items that fit, and there is such a list
pub record IsListKind {H X : Type 0} (Headed : H → Type 0) (Fits : X → Type 0)
    (Are : List X → Type 0) : Type 0 where
  pub heading : H
  pub headed : Headed heading
  pub fits : (items : List X) → Are items → All Fits items
  pub some : Begun Are []

-- the text is that of a part with this heading and these items
pub record TellsItems {H X : Type 0} (Headed : H → Type 0) (title : H → List ℕ)
    (written : X → List ℕ) (Are : List X → Type 0) (text : List ℕ) (heading : H)
    (items : List X) : Type 0 where
  pub headed : Headed heading
  pub are : Are items
  pub is : text ≡ list_text (title heading) written items

-- the reader has passed a part with a list, kept its text from its heading line on, and this is
-- counted of its items
pub record PassesList {H X S : Type 0} (Headed : H → Type 0) (title : H → List ℕ)
    (written : X → List ℕ) (Are : List X → Type 0) (tally : List X → S) (old new : Left)
    (heading : H) (at : Left) (kept : S) : Type 0 where
  pub items : List X
  pub tells : TellsItems Headed title written Are at.rest heading items
  pub passed : Passes old new (list_lines (title heading) written items)
  pub number : at.number ≡ old.number
  pub counted : kept ≡ tally items

-- the text says these items, and then `end`
pub record Remains {X : Type 0} (Fits : X → Type 0) (written : X → List ℕ) (text : List ℕ)
    (items : List X) : Type 0 where
  pub fits : All Fits items
  pub is : text ≡ text_of (to_end written items)

-- the items are this one and others, which the text says
pub record NextItem {X : Type 0} (Fits : X → Type 0) (written : X → List ℕ) (items : List X)
    (value : X) (text : List ℕ) : Type 0 where
  pub more : List X
  pub are : items ≡ value ∷ more
  pub remains : Remains Fits written text more

-- the text is a part with a list, and this is kept of it: its heading, all of its lines, and what
-- is counted of its items
pub record IsWholeList {H X S : Type 0} (Headed : H → Type 0) (title : H → List ℕ)
    (written : X → List ℕ) (Are : List X → Type 0) (tally : List X → S) (text : List ℕ)
    (heading : H) (at : Left) (kept : S) : Type 0 where
  pub items : List X
  pub tells : TellsItems Headed title written Are text heading items
  pub number : at.number ≡ 1
  pub rest : at.rest ≡ text
  pub counted : (others : List X) → TellsItems Headed title written Are text heading others
      → kept ≡ tally others

-- the text says items of which these lines are kept
pub record AreKept {H X L : Type 0} (Headed : H → Type 0) (title : H → List ℕ)
    (written : X → List ℕ) (Are : List X → Type 0) (line : X → L) (text : List ℕ) (heading : H)
    (list : List L) : Type 0 where
  pub items : List X
  pub tells : TellsItems Headed title written Are text heading items
  pub are : list ≡ map line items
