-- The lines of looks, as one text and their lengths.
use Rattle.std.proofs.Common.{◌≡◌, ◌∙◌, ℕ, ◌+◌, ◌≤◌, zero, suc, List, [], ◌∷◌, ◌++◌, map, take, drop, length, replicate, refl, sym, ap, arith}
use Rattle.std.specs.List.{sum}
use Rattle.std.proofs.lemmas.List.{length-append, length-drop, length-take-le, take-append-drop}
use Rattle.std.proofs.lemmas.List.Sums.{sum_by-cons}
use Rattle.std.proofs.Math.Seq.{drop-append_seam, take-append_seam}
use Rattle.pls_report.specs.inner.Kept.{joined_text, pieces_of}

-- the lengths of lines are together that of their text
pub total_length : (lines : List (List ℕ)) → sum (map length lines) ≡ length (joined_text lines)
total_length [] = refl
total_length (line ∷ lines) =
    sum_by-cons (λ x. x) (length line) (map length lines)
    ∙ ap (λ (n : ℕ). length line + n) (total_length lines)
    ∙ sym (length-append line (joined_text lines))

-- lines are the pieces of their text
pub pieces_joined : (lines : List (List ℕ)) → pieces_of (map length lines) (joined_text lines) ≡ lines
pieces_joined [] = refl
pieces_joined (line ∷ lines) =
    (λ k. take-append_seam line (joined_text lines) k
    ∷ pieces_of (map length lines) (drop-append_seam line (joined_text lines) k))
    ∙ ap (λ (others : List (List ℕ)). line ∷ others) (pieces_joined lines)

pieces_many : (counts text : List ℕ) → length (pieces_of counts text) ≡ length counts
pieces_many [] text = refl
pieces_many (count ∷ counts) text = ap suc (pieces_many counts (drop count text))

-- as many as the lines that they are
pub pieces_as_many : {X : Type 0} (counts text : List ℕ) (lines : List (List ℕ)) (rows : List X)
    → pieces_of counts text ≡ lines → length lines ≡ length rows → length counts ≡ length rows
pieces_as_many counts text lines rows are many =
    sym (pieces_many counts text) ∙ ap (length {A = List ℕ}) are ∙ many

module _ (count : ℕ) (counts text : List ℕ) (is : sum (count ∷ counts) ≡ length text) where
  first_within : count ≤ length text
  first_within = omega (arith, is, sum_by-cons (λ x. x) count counts)

  rest_is : sum counts ≡ length (drop count text)
  rest_is = omega (arith, is, sum_by-cons (λ x. x) count counts, length-drop count text)

-- pieces have their lengths
pub pieces_lengths : (counts text : List ℕ) → sum counts ≡ length text
    → counts ≡ map length (pieces_of counts text)
pieces_lengths [] text is = refl
pieces_lengths (count ∷ counts) text is =
    (λ k. sym (length-take-le count text (first_within count counts text is)) k
    ∷ pieces_lengths counts (drop count text) (rest_is count counts text is) k)

-- and are together the text
pub joined_pieces : (counts text : List ℕ) → sum counts ≡ length text
    → joined_text (pieces_of counts text) ≡ text
joined_pieces [] [] is = refl
joined_pieces [] (byte ∷ text) is = absurd (omega (arith, is))
joined_pieces (count ∷ counts) text is =
    ap (λ (rest : List ℕ). take count text ++ rest)
    (joined_pieces counts (drop count text) (rest_is count counts text is))
    ∙ take-append-drop count text

-- pieces without bytes
pub pieces_empty : (count : ℕ) → pieces_of (replicate count 0) [] ≡ replicate count []
pieces_empty zero = refl
pieces_empty (suc count) = ap (λ (others : List (List ℕ)). [] ∷ others) (pieces_empty count)
