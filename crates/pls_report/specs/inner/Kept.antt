-- Looks that are kept: the lines of the nodes, and the texts of the looks.
use Rattle.std.specs.Prelude.{ℕ, List, [], ◌∷◌, ◌++◌, take, drop, codes, decimal}
use Rattle.std.specs.List.{flat_map}
use Rattle.pls_sim.specs.declared.outcome.Outcome.{Outcome}
use Rattle.pls_report.specs.Look.{look_line}
use Rattle.pls_report.specs.declared.line_kind.LookCounts.{LookCounts}

-- the line of a row, with its line feed
abbrev pub row_line : ℕ × Outcome × List ℕ → List ℕ
row_line row = look_line row ++ 10 ∷ []

-- texts one behind another
abbrev pub joined_text : List (List ℕ) → List ℕ
joined_text texts = flat_map (λ text. text) texts

-- the line that closes a look, with its line feed
abbrev pub counts_text : ℕ → LookCounts → List ℕ
counts_text number counts =
    ((codes "look " ++ decimal number) ++ ((codes " rejecting " ++ decimal counts.rejecting)
    ++ ((codes " waiting " ++ decimal counts.waiting)
    ++ (codes " stale " ++ decimal counts.stale))))
    ++ codes "\n"

-- the text of a look, of its lines and what they count as
abbrev pub kept_text : ℕ → List (List ℕ) → LookCounts → List ℕ
kept_text number lines counts = joined_text lines ++ counts_text number counts

-- a text as pieces of these lengths, one behind another
abbrev pub pieces_of : List ℕ → List ℕ → List (List ℕ)
pieces_of [] text = []
pieces_of (count ∷ counts) text = take count text ∷ pieces_of counts (drop count text)

-- the lines of the nodes at the look that was kept last, and the texts of all that were kept
pub record TextsKept : Type 0 where
  pub lines : List (List ℕ)
  pub texts : List (List ℕ)
