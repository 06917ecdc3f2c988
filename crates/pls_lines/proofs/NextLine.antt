-- When no line of a kind stands next.
use Rattle.std.proofs.Common.{◌≡◌, ◌++◌, ℕ, ◌⊎◌, List, [], ◌∷◌, sym, ◌∙◌, subst, inl, inr}
use Rattle.pls_lines.specs.Plain.{LacksItem}
use Rattle.pls_lines.specs.Lines.{Left, Passes, Stands}
use Rattle.pls_lines.specs.laws.Cuts.{same_first, lacks_here}
use Rattle.pls_lines.specs.laws.Fronts.{first_line}

-- no line feed is left
pub no_line : (Kind : List ℕ → Type 0) (text : List ℕ) → LacksItem 10 text → Stands Kind text → ⊥
no_line Kind text lacks next = lacks_here 10 text next.line next.after lacks next.cut

-- the next line is not of the kind
pub other_line : (Kind : List ℕ → Type 0) (old new : Left) (line : List ℕ)
    → Passes old new (line ∷ []) → LacksItem 10 line → (Kind line → ⊥) → Stands Kind old.rest → ⊥
other_line Kind old new line passes plain other next =
    let cut = same_first 10 next.line line next.after new.rest next.plain plain
    (sym next.cut ∙ passes.stands ∙ first_line line [] new.rest) in
    other (subst Kind cut.0 next.is)

-- the line at the front of a text is not of the kind
pub other_front : (Kind : List ℕ → Type 0) (text line rest : List ℕ) → text ≡ line ++ 10 ∷ rest
    → LacksItem 10 line → (Kind line → ⊥) → Stands Kind text → ⊥
other_front Kind text line rest e plain other next =
    let cut = same_first 10 next.line line next.after rest next.plain plain (sym next.cut ∙ e) in
    other (subst Kind cut.0 next.is)

-- none of one kind stands next, and none of another
pub neither : (P Q : List ℕ → Type 0) (text : List ℕ) → (Stands P text → ⊥) → (Stands Q text → ⊥)
    → Stands (λ line. P line ⊎ Q line) text → ⊥
neither P Q text no_p no_q next = by next.is
  where
    stands : (Kind : List ℕ → Type 0) → Kind next.line → Stands Kind text
    stands Kind is = record {
      line = next.line;
      after = next.after;
      is = is;
      plain = next.plain;
      cut = next.cut;
    }

    by : P next.line ⊎ Q next.line → ⊥
    by (inl p) = no_p (stands P p)
    by (inr q) = no_q (stands Q q)
