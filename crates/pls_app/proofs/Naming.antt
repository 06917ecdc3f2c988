-- The line of `no`, with the identities that it names.
use Rattle.std.proofs.Common.{◌≡◌, ◌∙◌, ℕ, List, [], ◌∷◌, ◌++◌, map, codes, decimal, append-nil, sym, ap, refl}
use Rattle.pls_lines.specs.Text.{line_of}
use Rattle.pls_report.specs.ComponentLines.{if_several}
use Rattle.pls_report.specs.inner.Pieces.{spaced}
use Rattle.pls_app.specs.Answer.{no_answer}

-- a word and numbers, with a space before each
line_spaced : (word : List ℕ) (numbers : List ℕ)
    → line_of (word ∷ map decimal numbers) ≡ word ++ spaced numbers
line_spaced word [] = sym (append-nil word)
line_spaced word (number ∷ numbers) =
    ap (λ (rest : List ℕ). word ++ 32 ∷ rest) (line_spaced (decimal number) numbers)

-- numbers that are said of several are the same as words
several_words : (parts : List (List ℕ)) (ids : List ℕ)
    → if_several parts (map decimal ids) ≡ map decimal (if_several parts ids)
several_words [] ids = refl
several_words (part ∷ []) ids = refl
several_words (part ∷ next ∷ others) ids = refl

pub no_text : (parts : List (List ℕ)) (ids : List ℕ)
    → (codes "no" ++ spaced (if_several parts ids)) ++ codes "\n" ≡ (no_answer parts ids).text
no_text parts ids =
    ap (λ (line : List ℕ). line ++ codes "\n")
    (sym (line_spaced (codes "no") (if_several parts ids))
    ∙ ap (λ (words : List (List ℕ)). line_of (codes "no" ∷ words)) (sym (several_words parts ids)))
