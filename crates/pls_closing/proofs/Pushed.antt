-- What is counted of lines, with one more.
use Rattle.std.proofs.Common.{◌≡◌, ◌∙◌, ℕ, ◌+◌, Bool, true, false, if◌then◌else◌, List, [], ◌∷◌, ◌++◌, length, filter, refl, ap, arith, length-append}
use Rattle.std.specs.List.{sum_by}
use Rattle.std.proofs.lemmas.List.Elements.{All-push, filter-append}
use Rattle.std.proofs.lemmas.List.Sums.{sum_by_push}
use Rattle.pls_streams.specs.Steps.{capped}
use Rattle.pls_lines.specs.ListPart.{Begun}
use Rattle.pls_lines.proofs.ListItems.{All-front}
use Rattle.pls_closing.specs.Closing.{AreClosed, HasClosing, closing_of}
use Rattle.pls_closing.specs.laws.ClosedLists.{fits_begin}

-- lists that begin go on with each item that fits
pub begun_push : {X : Type 0} (Fits : X → Type 0) (closes : X → Bool) (may_lack : Bool)
    → HasClosing Fits closes → (front : List X) (item : X)
    → Begun (AreClosed Fits closes may_lack) front → Fits item
    → Begun (AreClosed Fits closes may_lack) (front ++ item ∷ [])
begun_push Fits closes may_lack some front item begun fits =
    fits_begin Fits closes may_lack some (front ++ item ∷ [])
    (All-push Fits front item (All-front Fits front begun.more begun.are.each) fits)

-- one item more
pub lines_push : {X : Type 0} (front : List X) (item : X)
    → capped (capped (length front) + 1) ≡ capped (length (front ++ item ∷ []))
lines_push front item = let many = length-append front (item ∷ []) in omega (arith, many)

-- and its bits
pub bits_push : {X : Type 0} (bits : X → ℕ) (front : List X) (item : X) (more : ℕ)
    → more ≡ bits item
    → capped (capped (sum_by bits front) + more) ≡ capped (sum_by bits (front ++ item ∷ []))
bits_push bits front item more is =
    let sum = sum_by_push bits front item in omega (arith, sum, is)

-- one that closes is counted, and no other
closing_more : {X : Type 0} (closes : X → Bool) (front : List X) (item : X) (b : Bool)
    → closes item ≡ b → length (closing_of closes (front ++ item ∷ []))
    ≡ length (closing_of closes front) + (if b then 1 else 0)
closing_more closes front item b is =
    ap length (filter-append closes front (item ∷ []))
    ∙ length-append (filter closes front) (filter closes (item ∷ []))
    ∙ ap (λ (n : ℕ). length (filter closes front) + n) (by b is)
  where
    by : (b : Bool) → closes item ≡ b → length (filter closes (item ∷ [])) ≡ (if b then 1 else 0)
    by true is = rw is refl
    by false is = rw is refl

pub closing_push : {X : Type 0} (closes : X → Bool) (front : List X) (item : X)
    → closes item ≡ true → capped (capped (length (closing_of closes front)) + 1)
    ≡ capped (length (closing_of closes (front ++ item ∷ [])))
closing_push closes front item is =
    let many = closing_more closes front item true is in omega (arith, many)

pub other_push : {X : Type 0} (closes : X → Bool) (front : List X) (item : X)
    → closes item ≡ false → capped (length (closing_of closes front))
    ≡ capped (length (closing_of closes (front ++ item ∷ [])))
other_push closes front item is =
    let many = closing_more closes front item false is in omega (arith, many)
