-- The words of a line that stands at the front of a text, its line feed, and what follows.
use Rattle.std.proofs.Common.{◌≡◌, ℕ, List, [], ◌∷◌, ◌++◌, decimal, ◌∙◌, ap}
use Rattle.pls_lines.specs.Text.{line_of}
use Rattle.pls_lines.specs.laws.LineWords.{first_word}

-- a word and three numbers
pub three_text : (word : List ℕ) (a b c : ℕ) (rest : List ℕ)
    → line_of (word ∷ decimal a ∷ decimal b ∷ decimal c ∷ []) ++ 10 ∷ rest
    ≡ word ++ 32 ∷ (decimal a ++ 32 ∷ (decimal b ++ 32 ∷ (decimal c ++ 10 ∷ rest)))
three_text word a b c rest =
    first_word word (decimal a) (decimal b ∷ decimal c ∷ []) rest
    ∙ ap (λ (words : List ℕ). word ++ 32 ∷ words)
    (first_word (decimal a) (decimal b) (decimal c ∷ []) rest
    ∙ ap (λ (words : List ℕ). decimal a ++ 32 ∷ words)
    (first_word (decimal b) (decimal c) [] rest))
