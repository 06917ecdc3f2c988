-- Every part of an input has a heading, a body of lines, and the line `end`.
use Rattle.std.specs.Prelude.{◌≡◌, ℕ, List, [], ◌∷◌, ◌++◌, codes}

-- the lines of a part
abbrev pub part_lines : List ℕ → List (List ℕ) → List (List ℕ)
part_lines heading body = heading ∷ body ++ codes "end" ∷ []

-- the lines are a part whose heading is as Heading says, and whose body is as Body says
pub record IsFramed (Heading : List ℕ → Type 0) (Body : List (List ℕ) → Type 0)
    (lines : List (List ℕ)) : Type 0 where
  pub heading : List ℕ
  pub body : List (List ℕ)
  pub headed : Heading heading
  pub fits : Body body
  pub is : lines ≡ part_lines heading body
