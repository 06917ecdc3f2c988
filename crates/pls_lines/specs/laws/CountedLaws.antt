-- A heading of one word is a kind of line.
use Rattle.std.proofs.Common.{◌≡◌, ℕ, List, []}
use Rattle.std.specs.List.{All}
use Rattle.std.proofs.lemmas.List.Elements.{All-nil}
use Rattle.pls_lines.specs.ListPart.{IsListKind}
use Rattle.pls_lines.specs.LineKind.{Always, IsLineKind, alone}
use Rattle.pls_lines.specs.Counted.{IsHeadingWord}
use Rattle.pls_lines.specs.laws.LineWords.{fixed_kind}

pub heading_kind : {X : Type 0} (word : List ℕ) → IsHeadingWord word → ((a b : X) → a ≡ b)
    → IsLineKind {X = X} Always (alone word)
heading_kind word law one = fixed_kind word law.plain law.other one

-- any items that fit are lists of a part
pub counted_list : {H X : Type 0} (heading : H) (Fits : X → Type 0)
    → IsListKind {H = H} Always Fits (All Fits)
counted_list heading Fits = record {
  heading = heading;
  headed = tt;
  fits = λ items are. are;
  some = record { more = []; are = All-nil Fits };
}
