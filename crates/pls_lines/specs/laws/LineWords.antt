-- Lines made of words.
use Rattle.std.proofs.Common.{◌≡◌, ◌≢◌, ℕ, List, [], ◌∷◌, ◌++◌, codes, ◌∙◌, ap, append_assoc}
use Rattle.std.specs.List.{AllByRecursion}
use Rattle.pls_lines.specs.Plain.{LacksItem}
use Rattle.pls_lines.specs.Text.{line_of}
use Rattle.pls_lines.specs.Lines.{Stands}
use Rattle.pls_lines.specs.LineKind.{Always, IsLineKind, Says, alone}
use Rattle.pls_lines.specs.laws.Cuts.{each-append}

-- two lists that are one begin with one value
pub same_head : {X : Type 0} (a b : X) (x y : List X) → a ∷ x ≡ b ∷ y → a ≡ b
same_head a b x y e = cc

-- words without a byte make a line without it, but for the spaces
pub line_lacks : (byte : ℕ) (words : List (List ℕ)) → 32 ≢ byte → AllByRecursion (LacksItem byte) words
    → LacksItem byte (line_of words)
line_lacks byte [] space p = tt
line_lacks byte (word ∷ []) space p = p.0
line_lacks byte (word ∷ next ∷ words) space p =
    each-append (λ other. other ≢ byte) word (32 ∷ line_of (next ∷ words)) p.0
    (space, line_lacks byte (next ∷ words) space p.1)

-- the first word of a line at the front of a text, and what stands behind it
pub first_word : (word next : List ℕ) (others : List (List ℕ)) (rest : List ℕ)
    → line_of (word ∷ next ∷ others) ++ 10 ∷ rest
    ≡ word ++ 32 ∷ (line_of (next ∷ others) ++ 10 ∷ rest)
first_word word next others rest = append_assoc word (32 ∷ line_of (next ∷ others)) (10 ∷ rest)

-- a value whose line stands next, and what follows
pub record StandsNext {X : Type 0} (Fits : X → Type 0) (written : X → List ℕ)
    (text : List ℕ) : Type 0 where
  pub value : X
  pub rest : List ℕ
  pub fits : Fits value
  pub is : text ≡ written value ++ 10 ∷ rest

pub stands_next : {X : Type 0} (Fits : X → Type 0) (written : X → List ℕ) (text : List ℕ)
    → Stands (Says Fits written) text → StandsNext Fits written text
stands_next Fits written text next = record {
  value = next.is.value;
  rest = next.after;
  fits = next.is.fits;
  is = next.cut ∙ ap (λ (line : List ℕ). line ++ 10 ∷ next.after) next.is.is;
}

-- the line at the front of a text is not this one
pub no_line_here : (text line : List ℕ) → ((rest : List ℕ) → text ≢ line ++ 10 ∷ rest)
    → Stands (λ next. next ≡ line) text → ⊥
no_line_here text line none next =
    none next.after (next.cut ∙ ap (λ (l : List ℕ). l ++ 10 ∷ next.after) next.is)

-- one line alone is a kind of line that says nothing more, where it is plain and not `end`
pub fixed_kind : {X : Type 0} (line : List ℕ) → LacksItem 10 line → line ≢ codes "end"
    → ((a b : X) → a ≡ b) → IsLineKind {X = X} Always (alone line)
fixed_kind {X = X} line plain other one = record {
  plain = λ value fits. plain;
  no_end = λ value fits. other;
  one = λ a b fits_a fits_b e. one a b;
}
